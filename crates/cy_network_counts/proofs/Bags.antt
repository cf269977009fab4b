-- How many rows pass a test, after a change of the bag that they are.
use Rattle.std.proofs.Common.{◌≡◌, ℕ, ◌+◌, ◌*◌, ◌≤◌, ◌==◌, Bool, true, false, cond, List, [], ◌∷◌, ◌++◌, filter, refl, sym, ap, subst, ◌∙◌, arith}
use Rattle.std.specs.Prelude.{count_by, sum_by, flat_map, replicate}
use Rattle.std.proofs.lemmas.List.Folds.{sum_by-replicate}
use Rattle.std.proofs.lemmas.List.Sums.{sum_by-append, sum_by-cons}
use Rattle.std.proofs.lemmas.Bool.{eqb-true}
use Rattle.cy_values.specs.declared.rows.Cell.{Cell}
use Rattle.cy_values.specs.Bag.{count_of}
use Rattle.cy_values.specs.Same.{is_row}
use Rattle.cy_values.proofs.Naturals.{nothing_added}
use Rattle.cy_values.proofs.SameRows.{row_itself, same_row}
use Rattle.cy_network_memory.specs.Counts.{Counts}
use Rattle.cy_planner_algebra.proofs.Counts.{count_append, count_cons}
use Rattle.cy_network_memory.specs.declared.memory.RowDelta.{RowDelta}
use Rattle.cy_network_operators.specs.Deltas.{IsDelta, counts}

-- the rows without one of these
abbrev without : List Cell → List (List Cell) → List (List Cell)
without row [] = []
without row (x ∷ xs) = cond (is_row row x) xs (x ∷ without row xs)

without_one : (p : List Cell → Bool) (row : List Cell) (xs : List (List Cell)) → 1 ≤ count_of row xs → count_by p xs ≡ cond (p row) 1 0 + count_by p (without row xs)
without_one p row [] some = absurd (omega (arith, some))
without_one p row (x ∷ xs) some = sum_by-cons (λ y. cond (p y) 1 0) x xs ∙ by (without_one p row xs) (is_row row x) refl
  where
    by : (1 ≤ count_of row xs → count_by p xs ≡ cond (p row) 1 0 + count_by p (without row xs)) → (b : Bool) → is_row row x ≡ b
        → cond (p x) 1 0 + count_by p xs ≡ cond (p row) 1 0 + count_by p (cond b xs (x ∷ without row xs))
    by rest true same = ap (λ y. cond (p y) 1 0 + count_by p xs) (sym (same_row row x same))
    by rest false other =
        let there : 1 ≤ count_of row xs = subst (λ n. 1 ≤ n) (count_cons row x xs ∙ ap (λ b. cond b 1 0 + count_of row xs) other ∙ nothing_added (count_of row xs)) some in
        let fewer : count_by p xs ≡ cond (p row) 1 0 + count_by p (without row xs) = rest there in
        let first : count_by p (x ∷ without row xs) ≡ cond (p x) 1 0 + count_by p (without row xs) = sum_by-cons (λ y. cond (p y) 1 0) x (without row xs) in
        omega (arith, fewer, first)

-- a bag that is within another one has no more rows that pass
pub included : (p : List Cell → Bool) (xs ys : List (List Cell)) → ((row : List Cell) → count_of row xs ≤ count_of row ys) → count_by p xs ≤ count_by p ys
included p [] ys fewer = omega arith
included p (x ∷ xs) ys fewer =
    let own : count_of x (x ∷ xs) ≡ 1 + count_of x xs = count_cons x x xs ∙ ap (λ b. cond b 1 0 + count_of x xs) (row_itself x) in
    let some : 1 ≤ count_of x ys = let most = fewer x in omega (arith, own, most) in
    let rest : count_by p xs ≤ count_by p (without x ys) =
    included p xs (without x ys) (λ row. left_over (is_row row x) (count_of row (x ∷ xs)) (count_of row xs) (count_of row ys) (count_of row (without x ys)) (count_cons row x xs) (fewer row) (without_one (is_row row) x ys some)) in
    let first : count_by p (x ∷ xs) ≡ cond (p x) 1 0 + count_by p xs = sum_by-cons (λ y. cond (p y) 1 0) x xs in
    let all : count_by p ys ≡ cond (p x) 1 0 + count_by p (without x ys) = without_one p x ys some in
    omega (arith, rest, first, all)
  where
    left_over : (b : Bool) (more n all m : ℕ) → more ≡ cond b 1 0 + n → more ≤ all → all ≡ cond b 1 0 + m → n ≤ m
    left_over b more n all m first most last = omega arith

-- a row as often as each of some row deltas says
abbrev pub repeated : (RowDelta → ℕ) → List RowDelta → List (List Cell)
repeated weight deltas = flat_map (λ s. replicate (weight s) s.row) deltas

-- the weights of the row deltas of rows that pass
abbrev pub weights : (RowDelta → ℕ) → (List Cell → Bool) → List RowDelta → ℕ
weights weight p deltas = sum_by (λ s. cond (p s.row) (weight s) 0) deltas

times_if : (b : Bool) (n : ℕ) → n * cond b 1 0 ≡ cond b n 0
times_if true n = omega arith
times_if false n = omega arith

counted_repeated : (p : List Cell → Bool) (weight : RowDelta → ℕ) (deltas : List RowDelta) → count_by p (repeated weight deltas) ≡ weights weight p deltas
counted_repeated p weight [] = refl
counted_repeated p weight (s ∷ deltas) =
    sum_by-append (λ y. cond (p y) 1 0) (replicate (weight s) s.row) (repeated weight deltas)
    ∙ ap (λ n. count_by p (replicate (weight s) s.row) + n) (counted_repeated p weight deltas)
    ∙ ap (λ n. n + weights weight p deltas) (sum_by-replicate (λ y. cond (p y) 1 0) (weight s) s.row ∙ times_if (p s.row) (weight s))
    ∙ sym (sum_by-cons (λ (t : RowDelta). cond (p t.row) (weight t) 0) s deltas)

sum_passing : (p : RowDelta → Bool) (weight : RowDelta → ℕ) (deltas : List RowDelta) → sum_by (λ s. cond (p s) (weight s) 0) deltas ≡ sum_by weight (filter p deltas)
sum_passing p weight [] = refl
sum_passing p weight (s ∷ deltas) =
    sum_by-cons (λ t. cond (p t) (weight t) 0) s deltas ∙ ap (λ n. cond (p s) (weight s) 0 + n) (sum_passing p weight deltas) ∙ step (p s)
  where
    step : (b : Bool) → cond b (weight s) 0 + sum_by weight (filter p deltas) ≡ sum_by weight (cond b (s ∷ filter p deltas) (filter p deltas))
    step true = sym (sum_by-cons weight s (filter p deltas))
    step false = nothing_added (sum_by weight (filter p deltas))

-- the weight of the one row delta of a row in a delta
pub of_row : (weight : RowDelta → ℕ) (row : List Cell) (before after : Counts) (deltas : List RowDelta) → IsDelta before after deltas
    → weights weight (is_row row) deltas ≡ cond (before row == after row) 0 (weight (record { row = row; before = before row; after = after row }))
of_row weight row before after deltas delta =
    sum_passing (λ (s : RowDelta). is_row row s.row) weight deltas ∙ ap (sum_by weight) (delta.each row) ∙ step (before row == after row)
  where
    own : RowDelta
    own = record { row = row; before = before row; after = after row }

    step : (b : Bool) → sum_by weight (cond b [] (own ∷ [])) ≡ cond b 0 (weight own)
    step true = refl
    step false = nothing_added (weight own)

module _ (before after : List (List Cell)) (deltas : List RowDelta) (delta : IsDelta (counts before) (counts after) deltas) where
  befores : (row : List Cell) → count_of row (repeated (λ s. s.before) deltas) ≡ cond (count_of row before == count_of row after) 0 (count_of row before)
  befores row = counted_repeated (is_row row) (λ s. s.before) deltas ∙ of_row (λ s. s.before) row (counts before) (counts after) deltas delta

  afters : (row : List Cell) → count_of row (repeated (λ s. s.after) deltas) ≡ cond (count_of row before == count_of row after) 0 (count_of row after)
  afters row = counted_repeated (is_row row) (λ s. s.after) deltas ∙ of_row (λ s. s.after) row (counts before) (counts after) deltas delta

  -- the rows of a delta are among those before, as often as it says
  pub within : (p : List Cell → Bool) → weights (λ s. s.before) p deltas ≤ count_by p before
  within p =
      subst (λ n. n ≤ count_by p before) (counted_repeated p (λ s. s.before) deltas)
      (included p (repeated (λ s. s.before) deltas) before (λ row. at_most (count_of row before == count_of row after) (count_of row (repeated (λ s. s.before) deltas)) (count_of row before) (befores row)))
    where
      at_most : (b : Bool) (k n : ℕ) → k ≡ cond b 0 n → k ≤ n
      at_most true k n is = omega arith
      at_most false k n is = omega arith

  -- the rows after, with those that the delta takes, are as many as the rows before with those that it adds
  pub balanced : (p : List Cell → Bool) → count_by p after + weights (λ s. s.before) p deltas ≡ count_by p before + weights (λ s. s.after) p deltas
  balanced p =
      ap (λ n. count_by p after + n) (sym (counted_repeated p (λ s. s.before) deltas))
      ∙ sym (sum_by-append (λ y. cond (p y) 1 0) after (repeated (λ s. s.before) deltas))
      ∙ between (count_by p later) (count_by p earlier)
      (included p later earlier (λ row. let e : count_of row later ≡ count_of row earlier = alike row in omega (arith, e)))
      (included p earlier later (λ row. let e : count_of row later ≡ count_of row earlier = alike row in omega (arith, e)))
      ∙ sum_by-append (λ y. cond (p y) 1 0) before (repeated (λ s. s.after) deltas)
      ∙ ap (λ n. count_by p before + n) (counted_repeated p (λ s. s.after) deltas)
    where
      later : List (List Cell)
      later = after ++ repeated (λ s. s.before) deltas

      earlier : List (List Cell)
      earlier = before ++ repeated (λ s. s.after) deltas

      between : (m n : ℕ) → m ≤ n → n ≤ m → m ≡ n
      between m n low high = omega arith

      crossed : (m n : ℕ) (b : Bool) → (m == n) ≡ b → n + cond b 0 m ≡ m + cond b 0 n
      crossed m n true is = let e : m ≡ n = eqb-true m n is in omega (arith, e)
      crossed m n false is = omega arith

      alike : (row : List Cell) → count_of row later ≡ count_of row earlier
      alike row =
          count_append row after (repeated (λ s. s.before) deltas)
          ∙ ap (λ n. count_of row after + n) (befores row)
          ∙ crossed (count_of row before) (count_of row after) (count_of row before == count_of row after) refl
          ∙ ap (λ n. count_of row before + n) (sym (afters row))
          ∙ sym (count_append row before (repeated (λ s. s.after) deltas))
