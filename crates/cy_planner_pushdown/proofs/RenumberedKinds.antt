-- An expression with other columns has its kind, where what stands there is of the same name and kind.
use Rattle.std.proofs.Common.{◌≡◌, ℕ, Bool, not, ◌&&◌, List, refl, ap, ◌∙◌}
use Rattle.std.specs.Prelude.{◌||◌, Option, Some, option_map, slice_get}
use Rattle.std.specs.List.{list_all}
use Rattle.cy_trees.specs.Trees.{Name, Expression, variable, property, has_labels, unary, binary, comparison, list, case, call, Expressions, no_more, more, Links, no_links, link, Arms, no_arms, arm, Otherwise, nothing, otherwise}
use Rattle.cy_scope_kinds.specs.declared.functions.Function.{Function}
use Rattle.cy_scope_kinds.specs.declared.functions.Function.TheVariants as function
use Rattle.cy_scope_kinds.specs.declared.kinds.Kind.{Kind}
use Rattle.cy_scope_kinds.specs.Functions.{fit, is_aggregate, is_none, is_one, is_property, takes}
use Rattle.cy_scope_kinds.specs.Kinded.{AreComparable, ArmsHaveKinds, HasKind, HaveKinds, LastHasKind, is_call_of}
use Rattle.cy_scope_kinds.specs.Scopes.{Scope}
use Rattle.cy_planner_rows.specs.Renumbered.{new_column, renumbered, renumbered_arms, renumbered_expressions, renumbered_links, renumbered_otherwise}

module _ (columns : List ℕ) where
  none_renumbered : (es : Expressions) → is_none (renumbered_expressions columns es) ≡ is_none es
  none_renumbered no_more = refl
  none_renumbered (more e es) = refl

  one_renumbered : (es : Expressions) → is_one (renumbered_expressions columns es) ≡ is_one es
  one_renumbered no_more = refl
  one_renumbered (more e es) = none_renumbered es

  property_renumbered : (es : Expressions) → is_property (renumbered_expressions columns es) ≡ is_property es
  property_renumbered no_more = refl
  property_renumbered (more (property e key) es) = none_renumbered es
  property_renumbered (more _ es) = refl

  fit_renumbered : (f : Function) (es : Expressions) → fit f (renumbered_expressions columns es) ≡ fit f es
  fit_renumbered function.Coalesce es = ap not (none_renumbered es)
  fit_renumbered function.Exists es = property_renumbered es
  fit_renumbered _ es = one_renumbered es

  call_renumbered : (f : Function) (distinct : Bool) (es : Expressions) (kinds : List Kind) → is_call_of f distinct (renumbered_expressions columns es) kinds ≡ is_call_of f distinct es kinds
  call_renumbered f distinct es kinds = ap (λ (b : Bool). (b && (not distinct || is_aggregate f)) && list_all (takes f) kinds) (fit_renumbered f es)

  module _ (scope after : Scope) (same : (c : ℕ) (v : Name × Kind) → slice_get scope c ≡ Some v → slice_get after (new_column columns c) ≡ Some v) where
    mutual
      pub kind_renumbered : (e : Expression) (k : Kind) → HasKind scope e k → HasKind after (renumbered columns e) k
      kind_renumbered (variable v) k h = (new_column columns h.0, ap (λ (c : Option ℕ). option_map (new_column columns) c) h.1, same h.0 (v.name, k) h.2)
      kind_renumbered (property e key) k h = (h.0, h.1, kind_renumbered e h.1 h.2, h.3)
      kind_renumbered (has_labels e labels) k h = (h.0, h.1, kind_renumbered e h.1 h.2, h.3)
      kind_renumbered (unary operator e) k h = (h.0, h.1, kind_renumbered e h.1 h.2, h.3)
      kind_renumbered (binary operator a b) k h = (h.0, h.1, h.2, kind_renumbered a h.1 h.3, kind_renumbered b h.2 h.4, h.5)
      kind_renumbered (comparison e links) k h = (h.0, h.1, kind_renumbered e h.1 h.2, links_renumbered links h.1 h.3)
      kind_renumbered (list es) k h = (h.0, h.1, all_renumbered es h.1 h.2, h.3)
      kind_renumbered (case arms e) k h = (h.0, h.1, h.2, arms_renumbered arms h.0 h.1 h.3, else_renumbered e h.2 h.4, h.5, h.6, h.7)
      kind_renumbered (call name distinct es) k h = (h.0, h.1, h.2, h.3, all_renumbered es h.1 h.4, call_renumbered h.0 distinct es h.1 ∙ h.5, h.6)
      kind_renumbered _ k h = h

      all_renumbered : (es : Expressions) (kinds : List Kind) → HaveKinds scope es kinds → HaveKinds after (renumbered_expressions columns es) kinds
      all_renumbered no_more kinds h = h
      all_renumbered (more e es) kinds h = (h.0, h.1, h.2, kind_renumbered e h.0 h.3, all_renumbered es h.1 h.4)

      links_renumbered : (links : Links) (k : Kind) → AreComparable scope k links → AreComparable after k (renumbered_links columns links)
      links_renumbered no_links k h = h
      links_renumbered (link by e links) k h = (h.0, kind_renumbered e h.0 h.1, h.2, links_renumbered links h.0 h.3)

      arms_renumbered : (arms : Arms) (conditions outcomes : List Kind) → ArmsHaveKinds scope arms conditions outcomes → ArmsHaveKinds after (renumbered_arms columns arms) conditions outcomes
      arms_renumbered no_arms conditions outcomes h = h
      arms_renumbered (arm condition outcome arms) conditions outcomes h =
          (h.0, h.1, h.2, h.3, h.4, h.5, kind_renumbered condition h.0 h.6, kind_renumbered outcome h.2 h.7, arms_renumbered arms h.1 h.3 h.8)

      else_renumbered : (e : Otherwise) (k : Kind) → LastHasKind scope e k → LastHasKind after (renumbered_otherwise columns e) k
      else_renumbered nothing k h = h
      else_renumbered (otherwise e) k h = kind_renumbered e k h
