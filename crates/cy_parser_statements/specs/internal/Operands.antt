-- What operands and gathered parts stand for, and that they are measured.
use Rattle.std.specs.Prelude.{◌≡◌, ◌≤◌, List, map, Option, Some, None}
use Rattle.cy_trees.specs.declared.expressions.Expr.{Expr}
use Rattle.cy_trees.specs.declared.expressions.Arm.{Arm}
use Rattle.cy_trees.specs.declared.expressions.Link.{Link}
use Rattle.cy_trees.specs.declared.expressions.Comparator.{Comparator}
use Rattle.cy_parser_statements.specs.declared.operands.Operand.{Operand}
use Rattle.cy_parser_statements.specs.declared.operands.Gathered.{Gathered}
use Rattle.cy_trees.specs.Depth.{deepest, arms_depth, links_depth}
use Rattle.cy_trees.specs.Trees.{Expression, Otherwise, nothing, otherwise}
use Rattle.cy_trees.specs.TreeModels.{expression_of, arm_of, link_of, expressions_of, arms_of, links_of}

abbrev pub operand_of : Operand → Expression
operand_of o = expression_of o.tree

abbrev pub otherwise_of : Option Operand → Otherwise
otherwise_of None = nothing
otherwise_of (Some o) = otherwise (expression_of o.tree)

abbrev pub elements_of : Gathered Expr → List Expression
elements_of g = map expression_of g.items.items

abbrev pub arms_in : Gathered Arm → List (Expression × Expression)
arms_in g = map arm_of g.items.items

abbrev pub links_in : Gathered Link → List (Comparator × Expression)
links_in g = map link_of g.items.items

-- the depth that is kept is that of the deepest part, and not too great
pub record AreMeasured (g : Gathered Expr) : Type 0 where
  pub deepest_is : g.depth ≡ deepest (expressions_of g.items)
  pub shallow : g.depth ≤ 64

pub record ArmsAreMeasured (g : Gathered Arm) : Type 0 where
  pub deepest_is : g.depth ≡ arms_depth (arms_of g.items)
  pub shallow : g.depth ≤ 64

pub record LinksAreMeasured (g : Gathered Link) : Type 0 where
  pub deepest_is : g.depth ≡ links_depth (links_of g.items)
  pub shallow : g.depth ≤ 64
