-- Columns that are set part by part.
use Rattle.std.proofs.Common.{◌≡◌, ℕ, ◌<◌, List, [], ◌∷◌, ◌++◌, map, take, drop, refl, ap}
use Rattle.cy_trees.specs.declared.expressions.Comparator.{Comparator}
use Rattle.cy_trees.specs.Trees.{Expression, Expressions, more, Links, link, Arms, arm}
use Rattle.cy_trees.specs.TreeModels.{expressions_from, links_from, arms_from}
use Rattle.cy_scope_kinds.specs.Scopes.{Scope}
use Rattle.cy_scope_kinds.specs.ResolvedExpressions.{resolved, resolved_expressions, resolved_links, resolved_arms}
use Rattle.cy_scope_kinds.specs.internal.ExpressionTrees.{resolved_link, resolved_arm}

pub resolved_list : (scope : Scope) (es : List Expression) → resolved_expressions scope (expressions_from es) ≡ expressions_from (map (resolved scope) es)
resolved_list scope [] = refl
resolved_list scope (e ∷ es) = ap (λ (rest : Expressions). more (resolved scope e) rest) (resolved_list scope es)

pub resolved_links_list : (scope : Scope) (ls : List (Comparator × Expression)) → resolved_links scope (links_from ls) ≡ links_from (map (resolved_link scope) ls)
resolved_links_list scope [] = refl
resolved_links_list scope (l ∷ ls) = ap (λ (rest : Links). link l.0 (resolved scope l.1) rest) (resolved_links_list scope ls)

pub resolved_arms_list : (scope : Scope) (arms : List (Expression × Expression)) → resolved_arms scope (arms_from arms) ≡ arms_from (map (resolved_arm scope) arms)
resolved_arms_list scope [] = refl
resolved_arms_list scope (a ∷ arms) = ap (λ (rest : Arms). arm (resolved scope a.0) (resolved scope a.1) rest) (resolved_arms_list scope arms)

module _ {B C : Type 0} (f : B → C) (g : C → C) where
  -- the parts that are done, and what the others are to become
  abbrev pub mixed : ℕ → List B → List C
  mixed i xs = map f (take i xs) ++ map g (map f (drop i xs))
