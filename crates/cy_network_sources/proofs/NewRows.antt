-- Rows that are all new, of which none stays.
use Rattle.std.proofs.Common.{◌≡◌, ℕ, ◌==◌, Bool, true, false, cond, ◌&&◌, List, [], ◌∷◌, ◌++◌, refl, sym, ap, ◌∙◌}
use Rattle.std.specs.Prelude.{flat_map}
use Rattle.std.proofs.lemmas.Bool.{eqb-true}
use Rattle.cy_values.specs.declared.rows.Cell.{Cell}
use Rattle.cy_graph.specs.Graph.{Content}
use Rattle.cy_network_memory.specs.declared.memory.RowDelta.{RowDelta}
use Rattle.cy_values.specs.Same.{is_row}
use Rattle.cy_network_memory.specs.Counts.{Counts, key_cells, no_rows}
use Rattle.cy_planner_algebra.specs.declared.operators.Attribute.{Attribute}
use Rattle.cy_planner_algebra.specs.Meaning.{with_attribute}
use Rattle.cy_network_operators.specs.Deltas.{deltas_of, row_delta_between}
use Rattle.cy_network_sources.specs.internal.Attributes.{front, reattributed, row_delta_at, still}

-- a row that counts 0 before and after makes nothing
uncounted : (b : Bool) (row old new : List Cell) → deltas_of row (cond b (row_delta_between new 0 0) (row_delta_between old 0 0 ++ row_delta_between new 0 0)) ≡ []
uncounted true row old new = refl
uncounted false row old new = refl

-- no row stays where there was none
none_still : (old new : Content) (column : ℕ) (attribute : Attribute) (was staged : Counts) (entity : Cell) (row : List Cell) → was ≡ no_rows → still old new column attribute was staged entity row ≡ []
none_still old new column attribute was staged entity row none =
    by (is_row (entity ∷ []) (key_cells (column ∷ []) (front row))) (was (front row) == staged (front row)) refl
  where
    before : was (front row) ≡ 0
    before = ap (λ f. f (front row)) none

    made : ℕ → ℕ → List RowDelta
    made m n = deltas_of row (reattributed old new column attribute (record { row = front row; before = m; after = n }))

    by : (a same : Bool) → (was (front row) == staged (front row)) ≡ same → cond (a && same) (deltas_of row (reattributed old new column attribute (row_delta_at was staged (front row)))) [] ≡ []
    by true true is =
        ap (λ n. made n (staged (front row))) before
        ∙ ap (made 0) (sym (eqb-true _ _ is) ∙ before)
        ∙ uncounted (is_row (with_attribute old column attribute (front row)) (with_attribute new column attribute (front row))) row (with_attribute old column attribute (front row)) (with_attribute new column attribute (front row))
    by true false is = refl
    by false same is = refl

pub none_stay : {X : Type 0} (old new : Content) (column : ℕ) (attribute : Attribute) (was staged : Counts) (entity : X → Cell) (row : List Cell) → was ≡ no_rows → (xs : List X)
    → flat_map (λ x. still old new column attribute was staged (entity x) row) xs ≡ []
none_stay old new column attribute was staged entity row none [] = refl
none_stay old new column attribute was staged entity row none (x ∷ xs) =
    ap (λ made. made ++ flat_map (λ y. still old new column attribute was staged (entity y) row) xs) (none_still old new column attribute was staged (entity x) row none)
    ∙ none_stay old new column attribute was staged entity row none xs
