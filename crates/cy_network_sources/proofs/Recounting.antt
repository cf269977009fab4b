-- How a row's row deltas come out of what stands among old rows and among new ones.
use Rattle.std.proofs.Common.{◌≡◌, ℕ, ◌+◌, ◌<◌, ◌≤◌, Bool, true, false, not, cond, List, [], ◌∷◌, ◌++◌, refl, sym, ap, ◌∙◌, filter, length, length-append, append_assoc, arith}
use Rattle.std.specs.List.{All}
use Rattle.std.proofs.lemmas.List.{append-nil}
use Rattle.std.proofs.lemmas.List.Elements.{All-append, filter-append}
use Rattle.std.proofs.lemmas.List.Filters.{length-filter_both}
use Rattle.std.proofs.lemmas.List.Sums.{count_by-le-length, length-filter, sum_by-cons}
use Rattle.cy_values.specs.declared.rows.Cell.{Cell}
use Rattle.cy_values.specs.Bag.{count_of}
use Rattle.cy_values.specs.Same.{is_row}
use Rattle.cy_values.proofs.Naturals.{nothing_added}
use Rattle.cy_values.proofs.SameRows.{row_itself, same_row}
use Rattle.cy_network_memory.specs.Counts.{greatest_count}
use Rattle.cy_planner_algebra.proofs.Counts.{count_append, count_passing}
use Rattle.cy_network_memory.specs.declared.memory.RowDelta.{RowDelta}
use Rattle.cy_network_operators.specs.Deltas.{IsBounded, row_delta_between, deltas_of}
use Rattle.cy_network_operators.proofs.Same.{is_row_back}
use Rattle.cy_network_operators.proofs.DeltaLemmas.{deltas_between, between_bounded as bounded_between}
use Rattle.cy_network_sources.specs.internal.Through.{recounted}

-- the rows that are others than this one
abbrev pub others : List Cell → List (List Cell) → List (List Cell)
others x rows = filter (λ other. not (is_row x other)) rows

-- those and the ones that are the same are all
pub split_count : (x : List Cell) (rows : List (List Cell)) → count_of x rows + length (others x rows) ≡ length rows
split_count x rows =
    ap (λ n. n + length (others x rows)) (sym (length-filter (is_row x) rows))
    ∙ length-filter_both (is_row x) (λ other. not (is_row x other)) (λ other. refl) rows

pub fewer : (x : List Cell) (rows : List (List Cell)) → length (others x rows) ≤ length rows
fewer x rows = let both = split_count x rows in omega (arith, both)

pub counted_within : (x : List Cell) (rows : List (List Cell)) → count_of x rows ≤ length rows
counted_within x rows = count_by-le-length (is_row x) rows

-- how often a row counts, once this one was taken
none_left : (x : List Cell) (rows : List (List Cell)) → count_of x (others x rows) ≡ 0
none_left x rows = count_passing (λ other. not (is_row x other)) x rows ∙ ap (λ b. cond (not b) (count_of x rows) 0) (row_itself x)

still_left : (row x : List Cell) (rows : List (List Cell)) → is_row row x ≡ false → count_of row (others x rows) ≡ count_of row rows
still_left row x rows apart = count_passing (λ other. not (is_row x other)) row rows ∙ ap (λ b. cond (not b) (count_of row rows) 0) (is_row_back row x ∙ apart)

one_more : (row x : List Cell) (rows : List (List Cell)) (b : Bool) → is_row row x ≡ b → count_of row (rows ++ x ∷ []) ≡ cond b 1 0 + count_of row rows
one_more row x rows b is =
    let last : count_of row (x ∷ []) ≡ cond b 1 0 + 0 = sum_by-cons (λ y. cond (is_row row y) 1 0) x [] ∙ ap (λ t. cond t 1 0 + 0) is in
    let both = count_append row rows (x ∷ []) in
    omega (arith, last, both)

-- what a row has with this one, where it is taken with how often it counts
module _ (row x : List Cell) (old new : List (List Cell)) where
  gone_step : row_delta_between row (count_of row (old ++ x ∷ [])) (count_of row new)
      ≡ deltas_of row (row_delta_between x (1 + count_of x old) (count_of x new)) ++ row_delta_between row (count_of row (others x old)) (count_of row (others x new))
  gone_step = by (is_row row x) refl
    where
      by : (b : Bool) → is_row row x ≡ b → row_delta_between row (count_of row (old ++ x ∷ [])) (count_of row new)
          ≡ deltas_of row (row_delta_between x (1 + count_of x old) (count_of x new)) ++ row_delta_between row (count_of row (others x old)) (count_of row (others x new))
      by false is =
          ap (λ n. row_delta_between row n (count_of row new)) (one_more row x old false is ∙ nothing_added (count_of row old))
          ∙ sym (ap (λ n. row_delta_between row n (count_of row (others x new))) (still_left row x old is) ∙ ap (row_delta_between row (count_of row old)) (still_left row x new is))
          ∙ sym (ap (λ made. made ++ row_delta_between row (count_of row (others x old)) (count_of row (others x new)))
          (deltas_between row x (1 + count_of x old) (count_of x new) ∙ ap (λ b. cond b (row_delta_between x (1 + count_of x old) (count_of x new)) []) is))
      by true is =
          let same : row ≡ x = same_row row x is in
          ap (λ n. row_delta_between row n (count_of row new)) (one_more row x old true is)
          ∙ ap (λ r. row_delta_between r (1 + count_of r old) (count_of r new)) same
          ∙ sym (append-nil (row_delta_between x (1 + count_of x old) (count_of x new)))
          ∙ ap (λ rest. row_delta_between x (1 + count_of x old) (count_of x new) ++ rest) (sym rest)
          ∙ ap (λ made. made ++ row_delta_between row (count_of row (others x old)) (count_of row (others x new)))
          (sym (deltas_between row x (1 + count_of x old) (count_of x new) ∙ ap (λ b. cond b (row_delta_between x (1 + count_of x old) (count_of x new)) []) is))
        where
          rest : row_delta_between row (count_of row (others x old)) (count_of row (others x new)) ≡ []
          rest =
              ap (λ n. row_delta_between row n (count_of row (others x new))) (ap (λ r. count_of r (others x old)) (same_row row x is) ∙ none_left x old)
              ∙ ap (row_delta_between row 0) (ap (λ r. count_of r (others x new)) (same_row row x is) ∙ none_left x new)

  come_step : row_delta_between row 0 (count_of row (new ++ x ∷ []))
      ≡ deltas_of row (row_delta_between x 0 (1 + count_of x new)) ++ row_delta_between row 0 (count_of row (others x new))
  come_step = by (is_row row x) refl
    where
      by : (b : Bool) → is_row row x ≡ b → row_delta_between row 0 (count_of row (new ++ x ∷ []))
          ≡ deltas_of row (row_delta_between x 0 (1 + count_of x new)) ++ row_delta_between row 0 (count_of row (others x new))
      by false is =
          ap (row_delta_between row 0) (one_more row x new false is ∙ nothing_added (count_of row new) ∙ sym (still_left row x new is))
          ∙ sym (ap (λ made. made ++ row_delta_between row 0 (count_of row (others x new)))
          (deltas_between row x 0 (1 + count_of x new) ∙ ap (λ b. cond b (row_delta_between x 0 (1 + count_of x new)) []) is))
      by true is =
          let same : row ≡ x = same_row row x is in
          ap (row_delta_between row 0) (one_more row x new true is)
          ∙ ap (λ r. row_delta_between r 0 (1 + count_of r new)) same
          ∙ sym (append-nil (row_delta_between x 0 (1 + count_of x new)))
          ∙ ap (λ rest. row_delta_between x 0 (1 + count_of x new) ++ rest) (sym (ap (row_delta_between row 0) (ap (λ r. count_of r (others x new)) same ∙ none_left x new)))
          ∙ ap (λ made. made ++ row_delta_between row 0 (count_of row (others x new)))
          (sym (deltas_between row x 0 (1 + count_of x new) ∙ ap (λ b. cond b (row_delta_between x 0 (1 + count_of x new)) []) is))

module _ (row x : List Cell) (deltas all : List RowDelta) where
  -- one more row is taken
  pub gone_next : (popped old new left_old left_new : List (List Cell)) (before after : ℕ) → old ≡ popped ++ x ∷ [] → before ≡ 1 + count_of x popped → after ≡ count_of x new
      → left_old ≡ others x popped → left_new ≡ others x new
      → deltas_of row deltas ++ recounted old new row ≡ all → deltas_of row (deltas ++ row_delta_between x before after) ++ recounted left_old left_new row ≡ all
  gone_next popped old new left_old left_new before after is first second is_old is_new so_far =
      ap (λ made. made ++ recounted left_old left_new row) (filter-append (λ s. is_row row s.row) deltas (row_delta_between x before after))
      ∙ append_assoc (deltas_of row deltas) (deltas_of row (row_delta_between x before after)) (recounted left_old left_new row)
      ∙ ap (λ made. deltas_of row deltas ++ made)
      (ap (λ n. deltas_of row (row_delta_between x n after) ++ recounted left_old left_new row) first
      ∙ ap (λ n. deltas_of row (row_delta_between x (1 + count_of x popped) n) ++ recounted left_old left_new row) second
      ∙ ap (λ rows. deltas_of row (row_delta_between x (1 + count_of x popped) (count_of x new)) ++ recounted rows left_new row) is_old
      ∙ ap (λ rows. deltas_of row (row_delta_between x (1 + count_of x popped) (count_of x new)) ++ recounted (others x popped) rows row) is_new
      ∙ sym (gone_step row x popped new)
      ∙ ap (λ rows. recounted rows new row) (sym is))
      ∙ so_far

  pub come_next : (popped new left_new : List (List Cell)) (after : ℕ) → new ≡ popped ++ x ∷ [] → after ≡ 1 + count_of x popped → left_new ≡ others x popped
      → deltas_of row deltas ++ row_delta_between row 0 (count_of row new) ≡ all → deltas_of row (deltas ++ row_delta_between x 0 after) ++ row_delta_between row 0 (count_of row left_new) ≡ all
  come_next popped new left_new after is second is_new so_far =
      ap (λ made. made ++ row_delta_between row 0 (count_of row left_new)) (filter-append (λ s. is_row row s.row) deltas (row_delta_between x 0 after))
      ∙ append_assoc (deltas_of row deltas) (deltas_of row (row_delta_between x 0 after)) (row_delta_between row 0 (count_of row left_new))
      ∙ ap (λ made. deltas_of row deltas ++ made)
      (ap (λ n. deltas_of row (row_delta_between x 0 n) ++ row_delta_between row 0 (count_of row left_new)) second
      ∙ ap (λ rows. deltas_of row (row_delta_between x 0 (1 + count_of x popped)) ++ row_delta_between row 0 (count_of row rows)) is_new
      ∙ sym (come_step row x [] popped)
      ∙ ap (λ rows. row_delta_between row 0 (count_of row rows)) (sym is))
      ∙ so_far

-- one more row delta within bounds
pub bounded_next : (x : List Cell) (deltas : List RowDelta) (before after : ℕ) → before ≤ greatest_count → after ≤ greatest_count → All IsBounded deltas → All IsBounded (deltas ++ row_delta_between x before after)
bounded_next x deltas before after one other so_far = All-append IsBounded deltas (row_delta_between x before after) so_far (bounded_between x before after one other)

-- fewer rows are left than there were, and as many were taken at most
module _ (x : List Cell) (all popped left : List (List Cell)) (is : all ≡ popped ++ x ∷ []) where
  longer : length all ≡ length popped + 1
  longer = ap (λ (rows : List (List Cell)). length rows) is ∙ length-append popped (x ∷ [])

  pub left_fewer : left ≡ others x popped → length left < length all
  left_fewer is_left =
      let one = longer in
      let few = fewer x popped in
      let same : length left ≡ length (others x popped) = ap (λ (rows : List (List Cell)). length rows) is_left in
      omega (arith, one, few, same)

  pub taken_within : (taken most : ℕ) → taken ≡ count_of x popped → length all ≤ most → 1 + taken ≤ most
  taken_within taken most counted within =
      let one = longer in
      let few = counted_within x popped in
      omega (arith, one, few, counted, within)
