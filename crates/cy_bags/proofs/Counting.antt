-- Counting rows that stand in order keeps their bag, and gives each row once.
use Rattle.std.proofs.Common.{◌≡◌, ℕ, ◌+◌, ◌<◌, Bool, true, false, cond, List, [], ◌∷◌, refl, sym, ap, subst, ◌∙◌, arith, suc, add-one}
use Rattle.std.specs.List.Sorted.{IsSorted}
use Rattle.std.specs.declared.cmp.Ordering.{Ordering}
use Rattle.std.specs.declared.cmp.Ordering.TheVariants.{Less, Equal, Greater}
use Rattle.std.specs.Cmp.{IsTotalOrder}
use Rattle.std.specs.Ordering.{eq_by_cmp, is_eq, is_lt, ordering_reverse}
use Rattle.std.proofs.lemmas.List.Sums.{sum_by-cons}
use Rattle.cy_values.specs.declared.rows.Cell.{Cell}
use Rattle.cy_values.specs.Order.{row_cmp}
use Rattle.cy_values.specs.Bag.{count_of, weight_of, IsBagOf, IsCanonical}
use Rattle.cy_values.proofs.SameRows.{equal_order}
use Rattle.cy_bags.specs.internal.Counting.{counted_from, counted_rows}

-- what comes no earlier and isn't the same comes later
pub later : (o : Ordering) → is_lt o ≡ false → is_eq o ≡ false → ordering_reverse o ≡ Less
later Less h k = cc
later Equal h k = cc
later Greater h k = refl

-- each row comes no earlier than the one before it
abbrev Ascends : List Cell → List (List Cell) → Type 0
Ascends row [] = Unit {0}
Ascends row (next ∷ rows) = (is_lt (row_cmp next row) ≡ false) × Ascends next rows

one_more : (b : Bool) (n more : ℕ) → cond b (n + 1) 0 + more ≡ cond b n 0 + (cond b 1 0 + more)
one_more true n more = omega arith
one_more false n more = omega arith

module _ (total : IsTotalOrder row_cmp) (same : (x y : List Cell) → row_cmp x y ≡ Equal → x ≡ y) where
  same_rows : (x y : List Cell) → eq_by_cmp row_cmp x y ≡ true → x ≡ y
  same_rows x y h = same x y (equal_order _ h)

  -- the weight of what is counted
  weight_from : (q row : List Cell) (n : ℕ) (rows : List (List Cell)) → weight_of q (counted_from row n rows) ≡ cond (eq_by_cmp row_cmp q row) n 0 + count_of q rows
  weight_from q row n [] = rw sum_by-cons (omega arith)
  weight_from q row n (next ∷ rows) =
      elim (eq_by_cmp row_cmp next row) as (λ b. eq_by_cmp row_cmp next row ≡ b → weight_of q (cond b (counted_from next (n + 1) rows) ((row, n) ∷ counted_from next 1 rows)) ≡ cond (eq_by_cmp row_cmp q row) n 0 + count_of q (next ∷ rows)) [
        | true ↦ λ h.
            weight_from q next (n + 1) rows
            ∙ one_more (eq_by_cmp row_cmp q next) n (count_of q rows)
            ∙ ap (λ r. cond (eq_by_cmp row_cmp q r) n 0 + (cond (eq_by_cmp row_cmp q next) 1 0 + count_of q rows)) (same_rows next row h)
            ∙ ap (λ rest. cond (eq_by_cmp row_cmp q row) n 0 + rest) (sym (sum_by-cons (λ r. cond (eq_by_cmp row_cmp q r) 1 0) next rows))
        | false ↦ λ h.
            sum_by-cons (λ (p : List Cell × ℕ). cond (eq_by_cmp row_cmp q p.0) p.1 0) (row, n) (counted_from next 1 rows)
            ∙ ap (λ rest. cond (eq_by_cmp row_cmp q row) n 0 + rest) (weight_from q next 1 rows ∙ sym (sum_by-cons (λ r. cond (eq_by_cmp row_cmp q r) 1 0) next rows))
      ] refl

  pub bag_of_counted : (rows : List (List Cell)) → IsBagOf rows (counted_rows rows)
  bag_of_counted [] q = refl
  bag_of_counted (row ∷ rows) q = weight_from q row 1 rows ∙ sym (sum_by-cons _ row rows)

  -- a smaller row may stand before what is counted
  before : (x : List Cell) (m : ℕ) (row : List Cell) (n : ℕ) (rows : List (List Cell)) → 0 < m → row_cmp x row ≡ Less → IsCanonical (counted_from row n rows) → IsCanonical ((x, m) ∷ counted_from row n rows)
  before x m row n [] pos less rest = (pos, less, rest)
  before x m row n (next ∷ rows) pos less rest =
      elim (eq_by_cmp row_cmp next row) as (λ b. eq_by_cmp row_cmp next row ≡ b → IsCanonical (cond b (counted_from next (n + 1) rows) ((row, n) ∷ counted_from next 1 rows)) → IsCanonical ((x, m) ∷ cond b (counted_from next (n + 1) rows) ((row, n) ∷ counted_from next 1 rows))) [
        | true ↦ λ h kept. before x m next (n + 1) rows pos (subst (λ r. row_cmp x r ≡ Less) (sym (same_rows next row h)) less) kept
        | false ↦ λ h kept. (pos, less, kept)
      ] refl rest

  canonical_from : (row : List Cell) (n : ℕ) (rows : List (List Cell)) → 0 < n → Ascends row rows → IsCanonical (counted_from row n rows)
  canonical_from row n [] pos up = pos
  canonical_from row n (next ∷ rows) pos up =
      elim (eq_by_cmp row_cmp next row) as (λ b. eq_by_cmp row_cmp next row ≡ b → IsCanonical (cond b (counted_from next (n + 1) rows) ((row, n) ∷ counted_from next 1 rows))) [
        | true ↦ λ h. canonical_from next (n + 1) rows (omega arith) up.1
        | false ↦ λ h. before row n next 1 rows pos (total.antisymm row next ∙ later _ up.0 h) (canonical_from next 1 rows (omega arith) up.1)
      ] refl

  -- what sorting ensures
  ascends : (R : List Cell → List Cell → Ordering) → ((x y : List Cell) → R x y ≡ row_cmp x y) → (row : List Cell) (rows : List (List Cell)) → IsSorted R (row ∷ rows) → Ascends row rows
  ascends R alike row [] sorted = tt
  ascends R alike row (next ∷ rows) sorted = (
    ap is_lt (sym (alike next row)) ∙ sorted 0 row (omega arith) (omega arith),
    ascends R alike next rows (λ k d low high. rw add-one (rw add-one at (sorted (suc k) d (omega arith) (omega arith)))),
  )

  pub canonical_of_counted : (R : List Cell → List Cell → Ordering) → ((x y : List Cell) → R x y ≡ row_cmp x y) → (rows : List (List Cell)) → IsSorted R rows → IsCanonical (counted_rows rows)
  canonical_of_counted R alike [] sorted = tt
  canonical_of_counted R alike (row ∷ rows) sorted = canonical_from row 1 rows (omega arith) (ascends R alike row rows sorted)
