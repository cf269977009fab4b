-- Lists of expressions with other columns, part by part.
use Rattle.std.proofs.Common.{◌≡◌, ℕ, List, [], ◌∷◌, map, Option, Vec, Global, refl, sym, ap, ◌∙◌}
use Rattle.std.specs.declared.boxed.Box.{Box}
use Rattle.cy_trees.specs.declared.expressions.Arm.{Arm}
use Rattle.cy_trees.specs.declared.expressions.Comparator.{Comparator}
use Rattle.cy_trees.specs.declared.expressions.Expr.{Expr, Case}
use Rattle.cy_trees.specs.Trees.{Expression, more, link, arm, case}
use Rattle.cy_trees.specs.TreeModels.{arm_of, expression_of, expressions_from, links_from, arms_from}
use Rattle.cy_scope_kinds.specs.internal.ExpressionTrees.{otherwise_of}
use Rattle.cy_planner_rows.specs.Renumbered.{renumbered, renumbered_arm, renumbered_arms, renumbered_expressions, renumbered_link, renumbered_links, renumbered_otherwise}
use Rattle.cy_planner_rows.proofs.CaseTrees.{case_is}

pub renumbered_list : (columns : List ℕ) (es : List Expression) → expressions_from (map (renumbered columns) es) ≡ renumbered_expressions columns (expressions_from es)
renumbered_list columns [] = refl
renumbered_list columns (e ∷ es) = ap (more (renumbered columns e)) (renumbered_list columns es)

pub renumbered_links_list : (columns : List ℕ) (ls : List (Comparator × Expression)) → links_from (map (renumbered_link columns) ls) ≡ renumbered_links columns (links_from ls)
renumbered_links_list columns [] = refl
renumbered_links_list columns (l ∷ ls) = ap (link l.0 (renumbered columns l.1)) (renumbered_links_list columns ls)

pub renumbered_arms_list : (columns : List ℕ) (arms : List (Expression × Expression)) → arms_from (map (renumbered_arm columns) arms) ≡ renumbered_arms columns (arms_from arms)
renumbered_arms_list columns [] = refl
renumbered_arms_list columns (a ∷ arms) = ap (arm (renumbered columns a.0) (renumbered columns a.1)) (renumbered_arms_list columns arms)

-- CASE
pub case_renumbered : (columns : List ℕ) (arms twins : Vec Arm Global) (e f : Option (Box Expr Global))
    → arms_from (map arm_of twins.items) ≡ renumbered_arms columns (arms_from (map arm_of arms.items)) → otherwise_of f ≡ renumbered_otherwise columns (otherwise_of e)
    → expression_of (Case twins f) ≡ renumbered columns (expression_of (Case arms e))
case_renumbered columns arms twins e f same_arms same =
    case_is twins f
    ∙ (λ i. case (same_arms i) (same i))
    ∙ sym (ap (renumbered columns) (case_is arms e))
