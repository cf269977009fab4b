-- The greatest counts of each row among row deltas, one after another.
use Rattle.std.proofs.Common.{◌≡◌, ℕ, ◌≤◌, Bool, true, false, cond, List, [], ◌∷◌, ◌++◌, Option, None, Some, filter, map, refl, sym, ap, subst, ◌∙◌, arith, max}
use Rattle.std.specs.Prelude.{flat_map, unwrap_or}
use Rattle.std.specs.List.{All, AllByRecursion, IsDistinct}
use Rattle.std.specs.Map.{keys_of, lookup}
use Rattle.std.specs.HashMap.{HashMap, UpdatesBy, get}
use Rattle.std.proofs.lemmas.Bool.{false≢true}
use Rattle.std.proofs.lemmas.List.{append-nil}
use Rattle.std.proofs.lemmas.List.Elements.{All-filter, All-head, All-tail, filter-append}
use Rattle.std.proofs.lemmas.Map.Keys.{IsDistinct-head, IsDistinct-tail}
use Rattle.cy_values.specs.declared.rows.Cell.{Cell}
use Rattle.cy_values.specs.Same.{is_row}
use Rattle.cy_values.proofs.SameRows.{same_row}
use Rattle.cy_network_memory.specs.Counts.{greatest_count}
use Rattle.cy_network_memory.specs.declared.memory.RowDelta.{RowDelta}
use Rattle.cy_network_operators.specs.Deltas.{IsBounded, IsDelta, row_delta_between, deltas_of}
use Rattle.cy_network_operators.proofs.Same.{is_row_if}
use Rattle.cy_network_operators.proofs.DeltaLemmas.{deltas_between, deltas_bounded}
use Rattle.cy_network_counts.specs.internal.Sums.{counts_at, greatest, most_after, most_before}
use Rattle.cy_network_counts.proofs.OneToOne.{none_between}

-- ---- the greatest weight

pub greatest_below : (weight : RowDelta → ℕ) (n : ℕ) (xs : List RowDelta) → All (λ s. weight s ≤ n) xs → greatest weight xs ≤ n
greatest_below weight n [] each = omega arith
greatest_below weight n (s ∷ xs) each =
    let here = All-head (λ s. weight s ≤ n) s xs each in
    let rest = greatest_below weight n xs (All-tail (λ s. weight s ≤ n) s xs each) in
    omega (arith, here, rest)

greatest_push : (weight : RowDelta → ℕ) (xs : List RowDelta) (s : RowDelta) → greatest weight (xs ++ s ∷ []) ≡ max (greatest weight xs) (weight s)
greatest_push weight [] s = omega arith
greatest_push weight (x ∷ xs) s = let rest = greatest_push weight xs s in omega (arith, rest)

-- of fewer row deltas it is no greater
pub greatest_more : (weight : RowDelta → ℕ) (p q : RowDelta → Bool) → ((s : RowDelta) → p s ≡ true → q s ≡ true) → (xs : List RowDelta) → greatest weight (filter p xs) ≤ greatest weight (filter q xs)
greatest_more weight p q more [] = omega arith
greatest_more weight p q more (s ∷ xs) = by (p s) refl (q s) refl (greatest_more weight p q more xs)
  where
    by : (b : Bool) → p s ≡ b → (c : Bool) → q s ≡ c → greatest weight (filter p xs) ≤ greatest weight (filter q xs)
        → greatest weight (cond b (s ∷ filter p xs) (filter p xs)) ≤ greatest weight (cond c (s ∷ filter q xs) (filter q xs))
    by true is true also rest = omega (arith, rest)
    by true is false not rest = absurd (false≢true (sym not ∙ more s is))
    by false is true also rest = omega (arith, rest)
    by false is false not rest = rest

-- ---- one row delta more

most_push : (weight : RowDelta → ℕ) (row : List Cell) (xs : List RowDelta) (s : RowDelta)
    → greatest weight (deltas_of row (xs ++ s ∷ [])) ≡ cond (is_row row s.row) (max (greatest weight (deltas_of row xs)) (weight s)) (greatest weight (deltas_of row xs))
most_push weight row xs s = ap (greatest weight) (filter-append (λ t. is_row row t.row) xs (s ∷ [])) ∙ by (is_row row s.row)
  where
    by : (b : Bool) → greatest weight (deltas_of row xs ++ cond b (s ∷ []) []) ≡ cond b (max (greatest weight (deltas_of row xs)) (weight s)) (greatest weight (deltas_of row xs))
    by true = greatest_push weight (deltas_of row xs) s
    by false = ap (greatest weight) (append-nil (deltas_of row xs))

turned : (row other : List Cell) → is_row row other ≡ is_row other row
turned row other = by (is_row row other) refl (is_row other row) refl
  where
    by : (b : Bool) → is_row row other ≡ b → (c : Bool) → is_row other row ≡ c → is_row row other ≡ is_row other row
    by true is c also = is ∙ sym (is_row_if other row (sym (same_row row other is)))
    by false is true also = absurd (false≢true (sym is ∙ is_row_if row other (sym (same_row other row also))))
    by false is false also = is ∙ sym also

pub counts_push : (old new : List (List Cell × (ℕ × ℕ))) (xs : List RowDelta) (s : RowDelta)
    → ((row : List Cell) → counts_at row old ≡ (most_before xs row, most_after xs row))
    → ((row : List Cell) → counts_at row new ≡ cond (is_row s.row row) (max (counts_at row old).0 s.before, max (counts_at row old).1 s.after) (counts_at row old))
    → (row : List Cell) → counts_at row new ≡ (most_before (xs ++ s ∷ []) row, most_after (xs ++ s ∷ []) row)
counts_push old new xs s before step row =
    step row ∙ ap (λ (c : ℕ × ℕ). cond (is_row s.row row) (max c.0 s.before, max c.1 s.after) c) (before row) ∙ ap (λ b. cond b (max first s.before, max second s.after) (first, second)) (turned s.row row)
    ∙ by (is_row row s.row)
    ∙ ap (λ (n : ℕ). (n, cond (is_row row s.row) (max second s.after) second)) (sym (most_push (λ (t : RowDelta). t.before) row xs s))
    ∙ ap (λ (n : ℕ). (most_before (xs ++ s ∷ []) row, n)) (sym (most_push (λ (t : RowDelta). t.after) row xs s))
  where
    first : ℕ
    first = most_before xs row

    second : ℕ
    second = most_after xs row

    by : (b : Bool) → ◌≡◌ {A = ℕ × ℕ} (cond b (max first s.before, max second s.after) (first, second)) (cond b (max first s.before) first, cond b (max second s.after) second)
    by true = refl
    by false = refl

-- ---- maps

module _ (test : List Cell → List Cell → Bool) (law : (x y : List Cell) → test x y ≡ is_row x y) where
  pub found_at : {S : Type 0} (map : HashMap (List Cell) (ℕ × ℕ) S) (row : List Cell) → unwrap_or (get test map row) (0, 0) ≡ counts_at row map.entries
  found_at map row = subst (λ (eq : List Cell → List Cell → Bool). unwrap_or (get test map row) (0, 0) ≡ unwrap_or (get eq map row) (0, 0)) (λ i x y. law x y i) refl

  pub put_at : {S : Type 0} (old new : HashMap (List Cell) (ℕ × ℕ) S) (row : List Cell) (w : ℕ × ℕ) → UpdatesBy test (test row) old new (Some w)
      → (other : List Cell) → counts_at other new.entries ≡ cond (is_row row other) w (counts_at other old.entries)
  put_at old new row w updates other =
      ap (λ (o : Option (ℕ × ℕ)). unwrap_or o (0, 0)) (subst (λ (eq : List Cell → List Cell → Bool). get eq new other ≡ cond (eq row other) (Some w) (get eq old other)) (λ i x y. law x y i) (updates.0 other))
      ∙ by (is_row row other)
    where
      by : (b : Bool) → unwrap_or (cond b (Some w) (lookup (is_row other) old.entries)) (0, 0) ≡ cond b w (counts_at other old.entries)
      by true = refl
      by false = refl

  pub counted : {S : Type 0} (old new : HashMap (List Cell) (ℕ × ℕ) S) (s : RowDelta) (found : ℕ × ℕ) (first second : ℕ) → found ≡ counts_at s.row old.entries → first ≡ max found.0 s.before
      → second ≡ max found.1 s.after → UpdatesBy test (test s.row) old new (Some (first, second))
      → (row : List Cell) → counts_at row new.entries ≡ cond (is_row s.row row) (max (counts_at row old.entries).0 s.before, max (counts_at row old.entries).1 s.after) (counts_at row old.entries)
  counted old new s found first second is first_is second_is updates row =
      put_at old new s.row (first, second) updates row
      ∙ ap (λ (n : ℕ). cond (is_row s.row row) (n, second) (counts_at row old.entries)) first_is
      ∙ ap (λ (n : ℕ). cond (is_row s.row row) (max found.0 s.before, n) (counts_at row old.entries)) second_is
      ∙ by (is_row s.row row) refl
    where
      by : (b : Bool) → is_row s.row row ≡ b
          → ◌≡◌ {A = ℕ × ℕ} (cond b (max found.0 s.before, max found.1 s.after) (counts_at row old.entries)) (cond b (max (counts_at row old.entries).0 s.before, max (counts_at row old.entries).1 s.after) (counts_at row old.entries))
      by true same = ap (λ (c : ℕ × ℕ). (max c.0 s.before, max c.1 s.after)) (is ∙ ap (λ r. counts_at r old.entries) (same_row s.row row same))
      by false other = refl

  pub distinct_rows : (keys : List (List Cell)) → IsDistinct test keys → IsDistinct is_row keys
  distinct_rows keys distinct = subst (λ (eq : List Cell → List Cell → Bool). IsDistinct eq keys) (λ i x y. law x y i) distinct

-- the row deltas that the entries of a map make
abbrev pub entry_deltas : List (List Cell × (ℕ × ℕ)) → List RowDelta
entry_deltas es = flat_map (λ e. row_delta_between e.0 e.1.0 e.1.1) es

none_found : (row : List Cell) (es : List (List Cell × (ℕ × ℕ))) → AllByRecursion (λ y. is_row row y ≡ false) (keys_of es) → lookup (is_row row) es ≡ None
none_found row [] each = refl
none_found row (e ∷ es) each = ap (λ b. cond b (Some e.1) (lookup (is_row row) es)) each.0 ∙ none_found row es each.1

nothing : (row : List Cell) → [] ≡ row_delta_between row 0 0
nothing row = none_between row 0 0 refl

pub entries_made : (es : List (List Cell × (ℕ × ℕ))) → IsDistinct is_row (keys_of es) → (row : List Cell)
    → deltas_of row (entry_deltas es) ≡ row_delta_between row (counts_at row es).0 (counts_at row es).1
entries_made [] distinct row = nothing row
entries_made (e ∷ es) distinct row =
    filter-append (λ s. is_row row s.row) (row_delta_between e.0 e.1.0 e.1.1) (entry_deltas es)
    ∙ ap (λ found. found ++ deltas_of row (entry_deltas es)) (deltas_between row e.0 e.1.0 e.1.1)
    ∙ by (is_row row e.0) refl (entries_made es (IsDistinct-tail is_row e.0 (keys_of es) distinct) row)
  where
    here : List RowDelta
    here = row_delta_between e.0 e.1.0 e.1.1

    by : (b : Bool) → is_row row e.0 ≡ b → deltas_of row (entry_deltas es) ≡ row_delta_between row (counts_at row es).0 (counts_at row es).1
        → cond b here [] ++ deltas_of row (entry_deltas es)
        ≡ row_delta_between row (unwrap_or (cond b (Some e.1) (lookup (is_row row) es)) (0, 0)).0 (unwrap_or (cond b (Some e.1) (lookup (is_row row) es)) (0, 0)).1
    by true is rest =
        let same : row ≡ e.0 = same_row row e.0 is in
        let none : lookup (is_row row) es ≡ None = none_found row es (subst (λ r. AllByRecursion (λ y. is_row r y ≡ false) (keys_of es)) (sym same) (IsDistinct-head is_row e.0 (keys_of es) distinct)) in
        ap (λ found. here ++ found) (rest ∙ ap (λ (o : Option (ℕ × ℕ)). row_delta_between row (unwrap_or o (0, 0)).0 (unwrap_or o (0, 0)).1) none ∙ sym (nothing row)) ∙ append-nil here
        ∙ ap (λ r. row_delta_between r e.1.0 e.1.1) (sym same)
    by false is rest = rest

-- ---- the whole

pub delta_of_counts : (xs made : List RowDelta) (es : List (List Cell × (ℕ × ℕ))) → ((row : List Cell) → counts_at row es ≡ (most_before xs row, most_after xs row))
    → ((row : List Cell) → deltas_of row made ≡ row_delta_between row (counts_at row es).0 (counts_at row es).1) → IsDelta (most_before xs) (most_after xs) made
delta_of_counts xs made es are each = record { each = λ row. each row ∙ ap (λ (c : ℕ × ℕ). row_delta_between row c.0 c.1) (are row) }

-- no row delta counts more than one of them
pub greatest_bounded : (xs made : List RowDelta) → IsDelta (most_before xs) (most_after xs) made → All IsBounded xs → All IsBounded made
greatest_bounded xs made delta all =
    deltas_bounded (most_before xs) (most_after xs) made delta
    (λ row. greatest_below (λ (s : RowDelta). s.before) greatest_count (deltas_of row xs) (λ k d less. (of_row row k d less).0))
    (λ row. greatest_below (λ (s : RowDelta). s.after) greatest_count (deltas_of row xs) (λ k d less. (of_row row k d less).1))
  where
    of_row : (row : List Cell) → All IsBounded (deltas_of row xs)
    of_row row = All-filter (λ s. is_row row s.row) IsBounded xs all
