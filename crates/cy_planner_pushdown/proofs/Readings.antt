-- Variables that stand in columns of a plan, one more at a time.
use Rattle.std.proofs.Common.{◌≡◌, ℕ, ◌+◌, ◌-◌, ◌≤◌, true, cond, not, List, [], ◌∷◌, ◌++◌, length, map, refl, sym, ap, subst, ◌∙◌, arith}
use Rattle.std.specs.Prelude.{Option, Some}
use Rattle.std.specs.List.{IsDistinct}
use Rattle.std.proofs.lemmas.Bool.{and_parts}
use Rattle.std.proofs.lemmas.List.{length-map, map-append}
use Rattle.cy_values.proofs.Booleans.{untrue}
use Rattle.cy_trees.specs.Trees.{Name}
use Rattle.cy_scope_kinds.specs.declared.kinds.Kind.{Kind}
use Rattle.cy_scope_kinds.specs.Scopes.{Scope, added_name, is_bound}
use Rattle.cy_planner_algebra.specs.Plans.{Plan}
use Rattle.cy_planner_pushdown.specs.internal.Conditions.{is_among, is_new}
use Rattle.cy_planner_pushdown.specs.internal.Pushed.{StandIn, kind_at, kind_in_scope}
use Rattle.cy_planner_pushdown.proofs.Moves.{distinct_longer}

stand_longer : (p : ℕ → Option Kind) (columns : List ℕ) (scope : Scope) (c : ℕ) (name : Name) (k : Kind) → map p columns ≡ map kind_in_scope scope → p c ≡ Some k
    → map p (columns ++ c ∷ []) ≡ map kind_in_scope (scope ++ (name, k) ∷ [])
stand_longer p columns scope c name k same at = map-append p columns (c ∷ []) ∙ (λ i. same i ++ at i ∷ []) ∙ sym (map-append kind_in_scope scope ((name, k) ∷ []))

pub none_stand : (part : Plan) → StandIn part [] []
unfolding IsDistinct
none_stand part = (refl, tt)

pub stands_next : (part : Plan) (columns : List ℕ) (scope : Scope) (column : ℕ) (name : Name) (k : Kind) → StandIn part columns scope → kind_at part column ≡ Some k → is_new scope columns name column ≡ true
    → StandIn part (columns ++ column ∷ []) (added_name scope k name)
stands_next part columns scope column name k stand at new =
    let parts = and_parts (not (is_bound scope name)) (not (is_among columns column)) new in
    let added : added_name scope k name ≡ scope ++ (name, k) ∷ [] = ap (λ b. cond b scope (scope ++ (name, k) ∷ [])) (untrue (is_bound scope name) parts.0) in (
      subst (λ (vs : Scope). map (kind_at part) (columns ++ column ∷ []) ≡ map kind_in_scope vs) (sym added) (stand_longer (kind_at part) columns scope column name k stand.0 at),
      distinct_longer columns column stand.1 (untrue (is_among columns column) parts.1),
    )

pub written_next : (before after : ℕ) (columns written : List ℕ) → written ≡ map (λ c. before + c) columns → before ≤ after → written ++ after ∷ [] ≡ map (λ c. before + c) (columns ++ (after - before) ∷ [])
written_next before after columns written is least =
    (λ i. is i ++ (let e : after ≡ before + (after - before) = omega (arith, least) in e) i ∷ []) ∙ sym (map-append (λ c. before + c) columns ((after - before) ∷ []))

-- as many variables as columns, also as a condition has them
pub as_many_written : (part : Plan) (columns written : List ℕ) (scope : Scope) (before : ℕ) → StandIn part columns scope → written ≡ map (λ c. before + c) columns → length scope ≡ length written
as_many_written part columns written scope before stand is =
    sym (length-map scope kind_in_scope) ∙ ap length (sym stand.0) ∙ length-map columns (kind_at part) ∙ sym (length-map columns (λ c. before + c)) ∙ ap length (sym is)
