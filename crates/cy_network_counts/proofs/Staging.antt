-- What staging a row delta does to the counts.
use Rattle.std.proofs.Common.{◌≡◌, ℕ, ◌+◌, ◌-◌, ◌<◌, ◌≤◌, Bool, true, false, cond, List, refl, sym, ap, ◌∙◌, length, take, get_or, arith, ℤ, pos, ◌+ℤ◌}
use Rattle.std.specs.Prelude.{unsigned_abs, Result, Ok, Err, OnOk, IfErr, IsErrAnd}
use Rattle.std.proofs.lemmas.Int.{ints}
use Rattle.std.proofs.lemmas.List.Sums.{sum_by-take-le}
use Rattle.cy_values.specs.declared.rows.Cell.{Cell}
use Rattle.cy_network_memory.specs.declared.faults.MemoryFault.{MemoryFault}
use Rattle.cy_network_memory.specs.declared.faults.MemoryFault.TheVariants.{TooManyRows}
use Rattle.cy_values.specs.Same.{is_row}
use Rattle.cy_values.proofs.SameRows.{row_itself, same_row}
use Rattle.cy_network_memory.specs.Counts.{Counts, changed, with_count}
use Rattle.cy_network_memory.specs.declared.memory.RowDelta.{RowDelta}
use Rattle.cy_network_operators.proofs.Same.{is_row_back}
use Rattle.cy_network_counts.specs.internal.Sums.{loss, lost, gain, gained}
use Rattle.cy_network_counts.proofs.Bags.{weights}
use Rattle.cy_network_counts.proofs.Totals.{takes, adds, weights_more}

pub sum_of_change : (n k before after : ℕ) (change : ℤ) → (pos before +ℤ change) ≡ pos after → k + before ≡ n + after → (pos n +ℤ change) ≡ pos k
sum_of_change n k before after change makes is = omega (arith, ints)

-- what a change makes of a count
moved : (n k before after : ℕ) (change : ℤ) → (pos before +ℤ change) ≡ pos after → k + before ≡ n + after → changed change n ≡ k
moved n k before after change makes is = ap unsigned_abs (sum_of_change n k before after change makes is)

fallen : (n before after : ℕ) → after < before → before - after ≤ n → (n - (before - after)) + before ≡ n + after
fallen n before after falls held = omega arith

grown : (n before after : ℕ) → before < after → (n + (after - before)) + before ≡ n + after
grown n before after rises = omega arith

less_by : (x n m t : ℕ) → x ≡ n - t → n ≡ m → t ≤ n → x + t ≡ m
less_by x n m t is same held = omega arith

-- ---- one row delta

module _ (staged new : Counts) (s : RowDelta) (change : ℤ) (makes : (pos s.before +ℤ change) ≡ pos s.after) where
  less_staged : s.after < s.before → takes s ≤ staged s.row → new ≡ with_count s.row (changed change (staged s.row)) staged → (row : List Cell) → new row + loss row s ≡ staged row
  less_staged falls held made row =
      ap (λ (f : Counts). f row + loss row s) made
      ∙ ap (λ b. cond (is_row s.row row) (changed change (staged s.row)) (staged row) + cond b (takes s) 0) (is_row_back s.row row)
      ∙ by (is_row s.row row) refl
    where
      by : (b : Bool) → is_row s.row row ≡ b → cond b (changed change (staged s.row)) (staged row) + cond b (takes s) 0 ≡ staged row
      by true same =
          less_by (changed change (staged s.row)) (staged s.row) (staged row) (takes s)
          (moved (staged s.row) (staged s.row - takes s) s.before s.after change makes (fallen (staged s.row) s.before s.after falls held)) (ap staged (same_row s.row row same)) held
      by false other = omega arith

  more_staged : s.before < s.after → new ≡ with_count s.row (changed change (staged s.row)) staged → (row : List Cell) → new row ≡ staged row + gain row s
  more_staged rises made row =
      ap (λ (f : Counts). f row) made ∙ by (is_row s.row row) refl ∙ ap (λ b. staged row + cond b (adds s) 0) (sym (is_row_back s.row row))
    where
      by : (b : Bool) → is_row s.row row ≡ b → cond b (changed change (staged s.row)) (staged row) ≡ staged row + cond b (adds s) 0
      by true same =
          moved (staged s.row) (staged s.row + adds s) s.before s.after change makes (grown (staged s.row) s.before s.after rises)
          ∙ ap (λ n. n + adds s) (ap staged (same_row s.row row same))
      by false other = omega arith

  -- a row counts less where that was staged
  pub less_if_staged : s.after < s.before → takes s ≤ staged s.row → (result : Result (Unit {0}) MemoryFault)
      → OnOk result (new ≡ with_count s.row (changed change (staged s.row)) staged) → OnOk result ((row : List Cell) → new row + loss row s ≡ staged row)
  less_if_staged falls held (Ok x) made = less_staged falls held made
  less_if_staged falls held (Err fault) made = tt

  -- a row counts more where that was staged
  pub more_if_staged : s.before < s.after → (result : Result (Unit {0}) MemoryFault)
      → OnOk result (new ≡ with_count s.row (changed change (staged s.row)) staged) → OnOk result ((row : List Cell) → new row ≡ staged row + gain row s)
  more_if_staged rises (Ok x) made = more_staged rises made
  more_if_staged rises (Err fault) made = tt

-- ---- one row delta of several

module _ (xs : List RowDelta) (i : ℕ) (s : RowDelta) (below : i < length xs) (is : s ≡ get_or xs i s) (staged initial : Counts) where
  own_more : (weight : RowDelta → ℕ) → weights weight (is_row s.row) (take (i + 1) xs) ≡ weights weight (is_row s.row) (take i xs) + weight s
  own_more weight = weights_more weight s.row xs i s below is ∙ ap (λ b. weights weight (is_row s.row) (take i xs) + cond b (weight s) 0) (row_itself s.row)

  up_to : (weight : RowDelta → ℕ) → weights weight (is_row s.row) (take (i + 1) xs) ≤ weights weight (is_row s.row) xs
  up_to weight = sum_by-take-le (λ (t : RowDelta). cond (is_row s.row t.row) (weight t) 0) xs (i + 1)

  -- what is still to be taken from a row is there
  pub enough : ((row : List Cell) → staged row + lost row (take i xs) ≡ initial row) → ((row : List Cell) → lost row xs ≤ initial row) → takes s ≤ staged s.row
  enough so_far held =
      let more : lost s.row (take (i + 1) xs) ≡ lost s.row (take i xs) + takes s = own_more takes in
      let most : lost s.row (take (i + 1) xs) ≤ lost s.row xs = up_to takes in
      let own = so_far s.row in
      let all = held s.row in
      omega (arith, more, most, own, all)

  -- a row that counts too often now does so after all row deltas
  too_often : (most : ℕ) → ((row : List Cell) → staged row ≡ initial row + gained row (take i xs)) → most < staged s.row + adds s → most < initial s.row + gained s.row xs
  too_often most so_far many =
      let own = so_far s.row in
      let more : gained s.row (take (i + 1) xs) ≡ gained s.row (take i xs) + adds s = own_more adds in
      let all : gained s.row (take (i + 1) xs) ≤ gained s.row xs = up_to adds in
      omega (arith, own, more, all, many)

  pub refused : (most : ℕ) → ((row : List Cell) → staged row ≡ initial row + gained row (take i xs)) → (result : Result (Unit {0}) MemoryFault) (fault : MemoryFault)
      → IsErrAnd result (λ f. f ≡ fault) → (fault ≡ TooManyRows → most < staged s.row + adds s)
      → IfErr result (λ f. f ≡ TooManyRows → (row : List Cell) × (most < initial row + gained row xs))
  refused most so_far (Ok x) fault same says = tt
  refused most so_far (Err f) fault same says = λ many. (s.row, too_often most so_far (says (sym same ∙ many)))
