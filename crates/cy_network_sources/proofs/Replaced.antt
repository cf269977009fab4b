-- One row in place of another.
use Rattle.std.proofs.Common.{◌≡◌, ℕ, ◌+◌, Bool, true, false, cond, List, [], ◌∷◌, ◌++◌, refl, sym, ap, ◌∙◌}
use Rattle.std.proofs.lemmas.Bool.{true≢false}
use Rattle.std.proofs.lemmas.List.{append-nil}
use Rattle.std.proofs.lemmas.List.Elements.{filter-append}
use Rattle.std.proofs.lemmas.List.Sums.{sum_by-cons}
use Rattle.cy_values.specs.declared.rows.Cell.{Cell}
use Rattle.cy_values.specs.Bag.{count_of}
use Rattle.cy_values.specs.Same.{is_row}
use Rattle.cy_values.proofs.Naturals.{nothing_after}
use Rattle.cy_values.proofs.SameRows.{same_row}
use Rattle.cy_network_memory.specs.declared.memory.RowDelta.{RowDelta}
use Rattle.cy_network_operators.specs.Deltas.{row_delta_between, deltas_of}
use Rattle.cy_network_operators.proofs.Same.{is_row_if}
use Rattle.cy_network_operators.proofs.DeltaLemmas.{deltas_between}
use Rattle.cy_network_sources.specs.internal.Through.{recounted}

one_counted : (row x : List Cell) (b : Bool) → is_row row x ≡ b → count_of row (x ∷ []) ≡ cond b 1 0
one_counted row x b is = sum_by-cons (λ y. cond (is_row row y) 1 0) x [] ∙ ap (λ t. cond t 1 0 + 0) is ∙ nothing_after (cond b 1 0)

module _ (row : List Cell) where
  -- a row that goes, and one that comes
  pub gone_alone : (x : List Cell) → deltas_of row (row_delta_between x 1 0) ≡ recounted (x ∷ []) [] row
  gone_alone x = by (is_row row x) refl
    where
      by : (b : Bool) → is_row row x ≡ b → deltas_of row (row_delta_between x 1 0) ≡ recounted (x ∷ []) [] row
      by true is =
          deltas_between row x 1 0 ∙ ap (λ b. cond b (row_delta_between x 1 0) []) is
          ∙ ap (λ r. row_delta_between r 1 0) (sym (same_row row x is)) ∙ ap (λ n. row_delta_between row n 0) (sym (one_counted row x true is))
      by false is =
          deltas_between row x 1 0 ∙ ap (λ b. cond b (row_delta_between x 1 0) []) is ∙ ap (λ n. row_delta_between row n 0) (sym (one_counted row x false is))

  pub come_alone : (x : List Cell) → deltas_of row (row_delta_between x 0 1) ≡ recounted [] (x ∷ []) row
  come_alone x = by (is_row row x) refl
    where
      by : (b : Bool) → is_row row x ≡ b → deltas_of row (row_delta_between x 0 1) ≡ recounted [] (x ∷ []) row
      by true is =
          deltas_between row x 0 1 ∙ ap (λ b. cond b (row_delta_between x 0 1) []) is
          ∙ ap (λ r. row_delta_between r 0 1) (sym (same_row row x is)) ∙ ap (row_delta_between row 0) (sym (one_counted row x true is))
      by false is =
          deltas_between row x 0 1 ∙ ap (λ b. cond b (row_delta_between x 0 1) []) is ∙ ap (row_delta_between row 0) (sym (one_counted row x false is))

  -- the same row is no change
  pub none_changed : (x y : List Cell) → is_row x y ≡ true → recounted (x ∷ []) (y ∷ []) row ≡ []
  none_changed x y is = ap (λ r. row_delta_between row (count_of row (x ∷ [])) (count_of row (r ∷ []))) (sym (same_row x y is)) ∙ by (is_row row x) refl
    where
      by : (b : Bool) → is_row row x ≡ b → row_delta_between row (count_of row (x ∷ [])) (count_of row (x ∷ [])) ≡ []
      by true is = ap (λ n. row_delta_between row n n) (one_counted row x true is)
      by false is = ap (λ n. row_delta_between row n n) (one_counted row x false is)

  pub both_changed : (x y : List Cell) → is_row x y ≡ false → deltas_of row (row_delta_between x 1 0) ++ deltas_of row (row_delta_between y 0 1) ≡ recounted (x ∷ []) (y ∷ []) row
  both_changed x y apart =
      ap (λ made. made ++ deltas_of row (row_delta_between y 0 1)) (deltas_between row x 1 0)
      ∙ ap (λ made. cond (is_row row x) (row_delta_between x 1 0) [] ++ made) (deltas_between row y 0 1)
      ∙ by (is_row row x) (is_row row y) refl refl
    where
      by : (a b : Bool) → is_row row x ≡ a → is_row row y ≡ b → cond (is_row row x) (row_delta_between x 1 0) [] ++ cond (is_row row y) (row_delta_between y 0 1) [] ≡ recounted (x ∷ []) (y ∷ []) row
      by true true is other = absurd (true≢false (sym (is_row_if x y (sym (same_row row x is) ∙ same_row row y other)) ∙ apart))
      by true false is other =
          ap (λ b. cond b (row_delta_between x 1 0) [] ++ cond (is_row row y) (row_delta_between y 0 1) []) is ∙ ap (λ b. row_delta_between x 1 0 ++ cond b (row_delta_between y 0 1) []) other
          ∙ append-nil (row_delta_between x 1 0) ∙ ap (λ r. row_delta_between r 1 0) (sym (same_row row x is))
          ∙ ap (λ n. row_delta_between row n 0) (sym (one_counted row x true is)) ∙ ap (row_delta_between row (count_of row (x ∷ []))) (sym (one_counted row y false other))
      by false true is other =
          ap (λ b. cond b (row_delta_between x 1 0) [] ++ cond (is_row row y) (row_delta_between y 0 1) []) is ∙ ap (λ b. cond b (row_delta_between y 0 1) []) other
          ∙ ap (λ r. row_delta_between r 0 1) (sym (same_row row y other))
          ∙ ap (λ n. row_delta_between row n 1) (sym (one_counted row x false is)) ∙ ap (row_delta_between row (count_of row (x ∷ []))) (sym (one_counted row y true other))
      by false false is other =
          ap (λ b. cond b (row_delta_between x 1 0) [] ++ cond (is_row row y) (row_delta_between y 0 1) []) is ∙ ap (λ b. cond b (row_delta_between y 0 1) []) other
          ∙ ap (λ n. row_delta_between row n 0) (sym (one_counted row x false is)) ∙ ap (row_delta_between row (count_of row (x ∷ []))) (sym (one_counted row y false other))

  -- row deltas after others
  pub after_others : (deltas made : List RowDelta) (all : List RowDelta) → deltas_of row made ≡ all → deltas_of row (deltas ++ made) ≡ deltas_of row deltas ++ all
  after_others deltas made all is = filter-append (λ s. is_row row s.row) deltas made ∙ ap (λ rest. deltas_of row deltas ++ rest) is
