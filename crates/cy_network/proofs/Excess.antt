-- By how much rows count more on one side of a delta than on the other.
use Rattle.std.proofs.Common.{◌≡◌, ℕ, ◌+◌, ◌-◌, ◌<◌, ◌≤◌, ◌==◌, Bool, true, false, cond, List, [], ◌∷◌, map, refl, sym, ap, subst, ◌∙◌, arith}
use Rattle.std.specs.Prelude.{flat_map, nat_lt, sum_by}
use Rattle.std.specs.List.{All}
use Rattle.std.proofs.lemmas.Bool.Decides.{nat_tests}
use Rattle.std.proofs.lemmas.List.Elements.{All-append, All-cons, All-nil}
use Rattle.std.proofs.lemmas.List.Sums.{sum_by-append, sum_by-cons}
use Rattle.std.proofs.lemmas.Bool.{eqb-true}
use Rattle.cy_values.specs.declared.rows.Cell.{Cell}
use Rattle.cy_values.specs.Bag.{weight_of}
use Rattle.cy_values.specs.Same.{is_row}
use Rattle.cy_values.proofs.Naturals.{nothing_added, nothing_after, nothing_left}
use Rattle.cy_values.proofs.SameRows.{row_itself}
use Rattle.cy_network_memory.specs.Counts.{Counts}
use Rattle.cy_network_memory.specs.declared.memory.RowDelta.{RowDelta}
use Rattle.cy_network_operators.specs.Deltas.{IsDelta, counts_after, row_delta_between, deltas_of}
use Rattle.cy_network_parts.specs.Counted.{written}
use Rattle.cy_network_memory.specs.Listings.{AreOnce}
use Rattle.cy_network.specs.internal.Roots.{excess}

-- what things of a row sum up to, where those of other rows are nothing
sum_of_row : (v : List Cell × ℕ → ℕ) (row : List Cell) (h : RowDelta → List (List Cell × ℕ)) → ((s : RowDelta) → is_row row s.row ≡ false → sum_by v (h s) ≡ 0) → (deltas : List RowDelta)
    → sum_by v (flat_map h deltas) ≡ sum_by v (flat_map h (deltas_of row deltas))
sum_of_row v row h none [] = refl
sum_of_row v row h none (s ∷ deltas) = step (is_row row s.row) refl (sum_of_row v row h none deltas)
  where
    step : (b : Bool) → is_row row s.row ≡ b → sum_by v (flat_map h deltas) ≡ sum_by v (flat_map h (deltas_of row deltas))
        → sum_by v (flat_map h (s ∷ deltas)) ≡ sum_by v (flat_map h (cond b (s ∷ deltas_of row deltas) (deltas_of row deltas)))
    step true is later =
        sum_by-append v (h s) (flat_map h deltas) ∙ ap (λ n. sum_by v (h s) + n) later ∙ sym (sum_by-append v (h s) (flat_map h (deltas_of row deltas)))
    step false is later =
        sum_by-append v (h s) (flat_map h deltas) ∙ ap (λ n. n + sum_by v (flat_map h deltas)) (none s is) ∙ nothing_added (sum_by v (flat_map h deltas)) ∙ later

module _ (row : List Cell) (number : ℕ → ℕ) where
  -- what an entry gives for the row
  abbrev value : List Cell × ℕ → ℕ
  value p = cond (is_row row p.0) (number p.1) 0

  value_one : (x : List Cell × ℕ) → sum_by value (x ∷ []) ≡ cond (is_row row x.0) (number x.1) 0
  value_one x = sum_by-cons value x [] ∙ nothing_after (value x)

  value_other : (f g : RowDelta → ℕ) (s : RowDelta) → is_row row s.row ≡ false → sum_by value (excess f g s) ≡ 0
  value_other f g s other = by (nat_lt (g s) (f s))
    where
      by : (b : Bool) → sum_by value (cond b ((s.row, f s - g s) ∷ []) []) ≡ 0
      by true = value_one (s.row, f s - g s) ∙ ap (λ b. cond b (number (f s - g s)) 0) other
      by false = refl

  value_itself : (f g : RowDelta → ℕ) (s : RowDelta) → is_row row s.row ≡ true → sum_by value (flat_map (excess f g) (s ∷ [])) ≡ cond (nat_lt (g s) (f s)) (number (f s - g s)) 0
  value_itself f g s same = sum_by-append value (excess f g s) [] ∙ nothing_after (sum_by value (excess f g s)) ∙ by (nat_lt (g s) (f s))
    where
      by : (b : Bool) → sum_by value (cond b ((s.row, f s - g s) ∷ []) []) ≡ cond b (number (f s - g s)) 0
      by true = value_one (s.row, f s - g s) ∙ ap (λ b. cond b (number (f s - g s)) 0) same
      by false = refl

  value_of_row : (f g : RowDelta → ℕ) (before after : Counts) (deltas : List RowDelta) → IsDelta before after deltas
      → sum_by value (flat_map (excess f g) deltas) ≡ sum_by value (flat_map (excess f g) (row_delta_between row (before row) (after row)))
  value_of_row f g before after deltas delta =
      sum_of_row value row (excess f g) (value_other f g) deltas ∙ ap (λ found. sum_by value (flat_map (excess f g) found)) (delta.each row)

-- ---- how much

less_or_none : (m n : ℕ) → cond (nat_lt n m) (m - n) 0 ≡ m - n
less_or_none m n = by (nat_lt n m) refl
  where
    by : (b : Bool) → nat_lt n m ≡ b → cond b (m - n) 0 ≡ m - n
    by true is = refl
    by false is = grind (arith, nat_tests)

pub losses_weight : (before after : Counts) (deltas : List RowDelta) → IsDelta before after deltas → (row : List Cell)
    → weight_of row (flat_map (excess (λ s. s.before) (λ s. s.after)) deltas) ≡ before row - after row
losses_weight before after deltas delta row =
    value_of_row row (λ n. n) (λ s. s.before) (λ s. s.after) before after deltas delta ∙ step (before row == after row) refl
  where
    step : (b : Bool) → (before row == after row) ≡ b
        → sum_by (value row (λ n. n)) (flat_map (excess (λ s. s.before) (λ s. s.after)) (cond b [] ((record { row = row; before = before row; after = after row }) ∷ []))) ≡ before row - after row
    step true is = nothing_left (before row) (after row) (eqb-true (before row) (after row) is)
    step false is =
        value_itself row (λ n. n) (λ s. s.before) (λ s. s.after) (record { row = row; before = before row; after = after row }) (row_itself row) ∙ less_or_none (before row) (after row)

pub gains_weight : (before after : Counts) (deltas : List RowDelta) → IsDelta before after deltas → (row : List Cell)
    → weight_of row (flat_map (excess (λ s. s.after) (λ s. s.before)) deltas) ≡ after row - before row
gains_weight before after deltas delta row =
    value_of_row row (λ n. n) (λ s. s.after) (λ s. s.before) before after deltas delta ∙ step (before row == after row) refl
  where
    step : (b : Bool) → (before row == after row) ≡ b
        → sum_by (value row (λ n. n)) (flat_map (excess (λ s. s.after) (λ s. s.before)) (cond b [] ((record { row = row; before = before row; after = after row }) ∷ []))) ≡ after row - before row
    step true is = nothing_left (after row) (before row) (sym (eqb-true (before row) (after row) is))
    step false is =
        value_itself row (λ n. n) (λ s. s.after) (λ s. s.before) (record { row = row; before = before row; after = after row }) (row_itself row) ∙ less_or_none (after row) (before row)

-- ---- each row once

one_or_none : (b : Bool) → cond b 1 0 ≤ 1
one_or_none true = omega arith
one_or_none false = omega arith

pub excess_once : (f g : RowDelta → ℕ) (before after : Counts) (deltas : List RowDelta) → IsDelta before after deltas → AreOnce (flat_map (excess f g) deltas)
excess_once f g before after deltas delta row =
    subst (λ n. n ≤ 1) (sym (value_of_row row (λ n. 1) f g before after deltas delta)) (step (before row == after row))
  where
    step : (b : Bool) → sum_by (value row (λ n. 1)) (flat_map (excess f g) (cond b [] ((record { row = row; before = before row; after = after row }) ∷ []))) ≤ 1
    step true = omega arith
    step false =
        let s : RowDelta = record { row = row; before = before row; after = after row } in
        subst (λ n. n ≤ 1) (sym (value_itself row (λ n. 1) f g s (row_itself row))) (one_or_none (nat_lt (g s) (f s)))

pub excess_positive : (f g : RowDelta → ℕ) (deltas : List RowDelta) → All (λ p. 0 < p.1) (flat_map (excess f g) deltas)
excess_positive f g [] = All-nil (λ (p : List Cell × ℕ). 0 < p.1)
excess_positive f g (s ∷ deltas) =
    All-append (λ (p : List Cell × ℕ). 0 < p.1) (excess f g s) (flat_map (excess f g) deltas) (by (nat_lt (g s) (f s)) refl) (excess_positive f g deltas)
  where
    more : nat_lt (g s) (f s) ≡ true → 0 < f s - g s
    more is = grind (arith, nat_tests)

    by : (b : Bool) → nat_lt (g s) (f s) ≡ b → All (λ (p : List Cell × ℕ). 0 < p.1) (cond b ((s.row, f s - g s) ∷ []) [])
    by true is = All-cons (λ (p : List Cell × ℕ). 0 < p.1) (s.row, f s - g s) [] (more is) (All-nil (λ (p : List Cell × ℕ). 0 < p.1))
    by false is = All-nil (λ (p : List Cell × ℕ). 0 < p.1)

-- ---- the counts after it

pub written_deltas : (deltas : List RowDelta) (before : Counts) → written (map (λ s. (s.row, s.after)) deltas) before ≡ counts_after deltas before
written_deltas [] before = refl
written_deltas (s ∷ deltas) before = written_deltas deltas (λ other. cond (is_row s.row other) s.after (before other))
