-- What the code's CASE stands for.
use Rattle.std.proofs.Common.{◌≡◌, Option, Some, Vec, Global, map, rules}
use Rattle.std.specs.Prelude.{None}
use Rattle.std.specs.declared.boxed.Box.{Box}
use Rattle.cy_trees.specs.declared.expressions.Arm.{Arm}
use Rattle.cy_trees.specs.declared.expressions.Expr.{Expr, Case, the_lemmas}
use Rattle.cy_trees.specs.Trees.{case}
use Rattle.cy_trees.specs.TreeModels.{arm_of, arms_from, expression_of}
use Rattle.cy_trees.proofs.TreeModelsLemmas.{case_otherwise}
use Rattle.cy_scope_kinds.specs.internal.ExpressionTrees.{otherwise_of}

pub case_is : (arms : Vec Arm Global) (e : Option (Box Expr Global)) → expression_of (Case arms e) ≡ case (arms_from (map arm_of arms.items)) (otherwise_of e)
case_is arms None = search (rules, the_lemmas)
case_is arms (Some e) = case_otherwise arms e
