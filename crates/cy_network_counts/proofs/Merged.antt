-- The delta of counts, read row by row.
use Rattle.std.proofs.Common.{◌≡◌, ℕ, suc, ◌+◌, ◌≤◌, ◌==◌, Bool, true, false, cond, ◌||◌, List, [], ◌∷◌, ◌++◌, filter, refl, sym, ap, subst, ◌∙◌, length, arith}
use Rattle.std.specs.Prelude.{flat_map, replicate}
use Rattle.std.specs.List.{All, list_any}
use Rattle.std.proofs.lemmas.Bool.{false≢true}
use Rattle.std.proofs.lemmas.List.{append-nil, length_push}
use Rattle.std.proofs.lemmas.List.Elements.{All-append, All-cons, All-nil}
use Rattle.std.proofs.lemmas.List.Folds.{list_any-append}
use Rattle.std.proofs.lemmas.List.Sums.{sum_by_push}
use Rattle.indexmap.specs.IndexSet.{insert_key}
use Rattle.cy_values.specs.declared.rows.Cell.{Cell}
use Rattle.cy_values.specs.Bag.{count_of}
use Rattle.cy_values.specs.Same.{is_row}
use Rattle.cy_values.proofs.Booleans.{or_false, or_true, itself_equal}
use Rattle.cy_values.proofs.Naturals.{nothing_added, nothing_after}
use Rattle.cy_values.proofs.SameRows.{row_itself, same_row}
use Rattle.cy_network_memory.specs.Counts.{Counts}
use Rattle.cy_planner_algebra.proofs.Counts.{count_cons}
use Rattle.cy_network_memory.specs.declared.memory.RowDelta.{RowDelta}
use Rattle.cy_network_operators.specs.Deltas.{IsBounded, IsDelta, deltas_of, row_delta_between}
use Rattle.cy_network_operators.proofs.DeltaLemmas.{deltas_made, deltas_between}
use Rattle.cy_network_counts.specs.Merges.{AreBounded}
use Rattle.cy_network_counts.specs.internal.Sums.{AreRowDeltasOf, lost, gained, is_changed, deltas_at}
use Rattle.cy_network_counts.proofs.Totals.{takes, adds, weights_none}

-- what is the same before and after has no row delta
pub no_row_delta : (row : List Cell) (m n : ℕ) → m ≡ n → row_delta_between row m n ≡ []
no_row_delta row m n same = ap (λ k. row_delta_between row k n) same ∙ ap (λ b. cond b [] ((record { row = row; before = n; after = n }) ∷ [])) (itself_equal n)

-- the rows that are the same as one
only_itself : (row : List Cell) (xs : List (List Cell)) → filter (is_row row) xs ≡ replicate (count_of row xs) row
only_itself row [] = refl
only_itself row (x ∷ xs) = by (only_itself row xs) (is_row row x) refl ∙ ap (λ n. replicate n row) (sym (count_cons row x xs))
  where
    by : filter (is_row row) xs ≡ replicate (count_of row xs) row → (b : Bool) → is_row row x ≡ b
        → cond (is_row row x) (x ∷ filter (is_row row) xs) (filter (is_row row) xs) ≡ replicate (cond (is_row row x) 1 0 + count_of row xs) row
    by rest true same =
        let one_more : cond (is_row row x) 1 0 + count_of row xs ≡ suc (count_of row xs) = ap (λ b. cond b 1 0 + count_of row xs) same ∙ next (count_of row xs) in
        ap (λ b. cond b (x ∷ filter (is_row row) xs) (filter (is_row row) xs)) same
        ∙ ap (λ y. y ∷ filter (is_row row) xs) (sym (same_row row x same))
        ∙ ap (λ ys. row ∷ ys) rest
        ∙ ap (λ n. replicate n row) (sym one_more)
      where
        next : (n : ℕ) → 1 + n ≡ suc n
        next n = omega arith
    by rest false other =
        let no_more : cond (is_row row x) 1 0 + count_of row xs ≡ count_of row xs = ap (λ b. cond b 1 0 + count_of row xs) other ∙ nothing_added (count_of row xs) in
        ap (λ b. cond b (x ∷ filter (is_row row) xs) (filter (is_row row) xs)) other ∙ rest ∙ ap (λ n. replicate n row) (sym no_more)

-- The row deltas of some rows, each of which stands once, are a delta where each other row counts as before.
pub delta_at : (was staged : Counts) (rows : List (List Cell)) (among : List Cell → Bool) → ((row : List Cell) → count_of row rows ≡ cond (among row) 1 0)
    → ((row : List Cell) → among row ≡ false → was row ≡ staged row) → IsDelta was staged (deltas_at was staged rows)
delta_at was staged rows among once still = record {
  each = λ row.
      deltas_made row (is_row row) here (λ x other. of_one row x ∙ ap (λ b. cond b (here x) []) other) rows
      ∙ ap (flat_map (λ x. deltas_of row (here x))) (only_itself row rows ∙ ap (λ n. replicate n row) (once row))
      ∙ by row (among row) refl;
}
  where
    here : List Cell → List RowDelta
    here x = row_delta_between x (was x) (staged x)

    of_one : (row x : List Cell) → deltas_of row (here x) ≡ cond (is_row row x) (here x) []
    of_one row x = deltas_between row x (was x) (staged x)

    by : (row : List Cell) (b : Bool) → among row ≡ b → flat_map (λ x. deltas_of row (here x)) (replicate (cond b 1 0) row) ≡ here row
    by row true is = append-nil (deltas_of row (here row)) ∙ of_one row row ∙ ap (λ b. cond b (here row) []) (row_itself row)
    by row false is = sym (no_row_delta row (was row) (staged row) (still row is))

-- ---- the rows of row deltas, each once

pub once_more : (ks : List (List Cell)) (xs : List RowDelta) (s : RowDelta) → ((row : List Cell) → count_of row ks ≡ cond (is_changed row xs) 1 0)
    → (row : List Cell) → count_of row (insert_key is_row ks s.row) ≡ cond (is_changed row (xs ++ s ∷ [])) 1 0
once_more ks xs s once row =
    by (list_any (is_row s.row) ks) refl (is_row row s.row) refl
    ∙ ap (λ b. cond b 1 0) (sym (list_any-append (λ (t : RowDelta). is_row row t.row) xs (s ∷ []) ∙ ap (λ b. is_changed row xs || b) (or_false (is_row row s.row))))
  where
    -- a row that is among the keys is that of a row delta, and no other one is
    counted : (x : List Cell) (zs : List (List Cell)) → list_any (is_row x) zs ≡ true → 1 ≤ count_of x zs
    counted x [] e = absurd (false≢true e)
    counted x (z ∷ zs) e = subst (λ n. 1 ≤ n) (sym (count_cons x z zs)) (step (is_row x z) (counted x zs) e)
      where
        step : (b : Bool) → (list_any (is_row x) zs ≡ true → 1 ≤ count_of x zs) → (b || list_any (is_row x) zs) ≡ true → 1 ≤ cond b 1 0 + count_of x zs
        step true rest h = omega arith
        step false rest h = let more : 1 ≤ count_of x zs = rest h in omega (arith, more)

    absent : (x : List Cell) (zs : List (List Cell)) → list_any (is_row x) zs ≡ false → count_of x zs ≡ 0
    absent x [] e = refl
    absent x (z ∷ zs) e = count_cons x z zs ∙ step (is_row x z) (absent x zs) e
      where
        step : (b : Bool) → (list_any (is_row x) zs ≡ false → count_of x zs ≡ 0) → (b || list_any (is_row x) zs) ≡ false → cond b 1 0 + count_of x zs ≡ 0
        step true rest h = cc
        step false rest h = let none : count_of x zs ≡ 0 = rest h in omega (arith, none)

    yes : (b : Bool) (n : ℕ) → n ≡ cond b 1 0 → 1 ≤ n → b ≡ true
    yes true n e some = refl
    yes false n e some = absurd (omega (arith, e, some))

    no : (b : Bool) (n : ℕ) → n ≡ cond b 1 0 → n ≡ 0 → b ≡ false
    no true n e none = absurd (omega (arith, e, none))
    no false n e none = refl

    by : (there : Bool) → list_any (is_row s.row) ks ≡ there → (here : Bool) → is_row row s.row ≡ here
        → count_of row (cond (list_any (is_row s.row) ks) ks (ks ++ s.row ∷ [])) ≡ cond (is_changed row xs || is_row row s.row) 1 0
    by true there true same =
        let is : row ≡ s.row = same_row row s.row same in
        let old : is_changed row xs ≡ true = ap (λ (r : List Cell). is_changed r xs) is ∙ yes (is_changed s.row xs) (count_of s.row ks) (once s.row) (counted s.row ks there) in
        ap (λ b. count_of row (cond b ks (ks ++ s.row ∷ []))) there ∙ once row ∙ ap (λ b. cond b 1 0) old ∙ ap (λ b. cond (b || is_row row s.row) 1 0) (sym old)
    by true there false other =
        ap (λ b. count_of row (cond b ks (ks ++ s.row ∷ []))) there ∙ once row ∙ ap (λ b. cond b 1 0) (sym (or_false (is_changed row xs))) ∙ ap (λ b. cond (is_changed row xs || b) 1 0) (sym other)
    by false there true same =
        let is : row ≡ s.row = same_row row s.row same in
        let none : count_of row ks ≡ 0 = ap (λ (r : List Cell). count_of r ks) is ∙ absent s.row ks there in
        ap (λ b. count_of row (cond b ks (ks ++ s.row ∷ []))) there
        ∙ sum_by_push (λ z. cond (is_row row z) 1 0) ks s.row
        ∙ ap (λ b. count_of row ks + cond b 1 0) same
        ∙ ap (λ n. n + 1) none
        ∙ ap (λ b. cond b 1 0) (sym (or_true (is_changed row xs)))
        ∙ ap (λ b. cond (is_changed row xs || b) 1 0) (sym same)
    by false there false other =
        ap (λ b. count_of row (cond b ks (ks ++ s.row ∷ []))) there
        ∙ sum_by_push (λ z. cond (is_row row z) 1 0) ks s.row
        ∙ ap (λ b. count_of row ks + cond b 1 0) other
        ∙ nothing_after (count_of row ks)
        ∙ once row
        ∙ ap (λ b. cond b 1 0) (sym (or_false (is_changed row xs)))
        ∙ ap (λ b. cond (is_changed row xs || b) 1 0) (sym other)

-- the same by a test that tells which rows are the same
pub once_inserted : (test : List Cell → List Cell → Bool) → ((x y : List Cell) → test x y ≡ is_row x y) → (ks new : List (List Cell)) (xs : List RowDelta) (s : RowDelta)
    → ((row : List Cell) → count_of row ks ≡ cond (is_changed row xs) 1 0) → new ≡ insert_key test ks s.row
    → (row : List Cell) → count_of row new ≡ cond (is_changed row (xs ++ s ∷ [])) 1 0
once_inserted test law ks new xs s once is row =
    ap (count_of row) (is ∙ (λ i. insert_key (λ x y. law x y i) ks s.row)) ∙ once_more ks xs s once row

pub few_inserted : (test : List Cell → List Cell → Bool) → ((x y : List Cell) → test x y ≡ is_row x y) → (ks new : List (List Cell)) (xs : List RowDelta) (s : RowDelta) → length ks ≤ length xs → new ≡ insert_key test ks s.row
    → length new ≤ length (xs ++ s ∷ [])
few_inserted test law ks new xs s few is =
    let long : length (xs ++ s ∷ []) ≡ length xs + 1 = length_push xs s in
    let short : length new ≤ length ks + 1 = subst (λ (zs : List (List Cell)). length zs ≤ length ks + 1) (sym is) (by (list_any (test s.row) ks)) in
    omega (arith, few, long, short)
  where
    by : (b : Bool) → length (cond b ks (ks ++ s.row ∷ [])) ≤ length ks + 1
    by true = omega arith
    by false = let e : length (ks ++ s.row ∷ []) ≡ length ks + 1 = length_push ks s.row in omega (arith, e)

-- a single change has one row, which stands once
pub single : (changes : List RowDelta) (change : RowDelta) (row : List Cell) → changes ≡ change ∷ [] → count_of row (change.row ∷ []) ≡ cond (is_changed row changes) 1 0
single changes change row is =
    count_cons row change.row [] ∙ by (is_row row change.row) ∙ ap (λ (xs : List RowDelta). cond (is_changed row xs) 1 0) (sym is)
  where
    by : (b : Bool) → cond b 1 0 + 0 ≡ cond (b || false) 1 0
    by true = refl
    by false = refl

-- and one row delta at most
pub single_row_delta : (was staged : Counts) (changes rest made : List RowDelta) (change : RowDelta) → length changes ≡ 1 → changes ≡ rest ++ change ∷ []
    → made ≡ rest ++ row_delta_between change.row (was change.row) (staged change.row) → AreRowDeltasOf was staged changes made
single_row_delta was staged changes rest made change one popped is = record {
  rows = change.row ∷ [];
  once = λ row. single changes change row (popped ∙ ap (λ xs. xs ++ change ∷ []) empty);
  between = is ∙ ap (λ xs. xs ++ here) empty ∙ sym (append-nil here);
}
  where
    here : List RowDelta
    here = row_delta_between change.row (was change.row) (staged change.row)

    none : (xs : List RowDelta) → length (xs ++ change ∷ []) ≡ 1 → xs ≡ []
    none [] e = refl
    none (x ∷ xs) e = let more : length (xs ++ change ∷ []) ≡ length xs + 1 = length_push xs change in absurd (omega (arith, e, more))

    empty : rest ≡ []
    empty = none rest (ap length (sym popped) ∙ one)

-- ---- the whole

-- the row deltas of the rows of some changes, after all of them are staged
pub merged_delta : (was was_now old losses gains now : Counts) (changes first second : List RowDelta)
    → first ≡ changes → second ≡ changes → old ≡ was → was_now ≡ was → now ≡ gains
    → ((row : List Cell) → losses row + lost row first ≡ old row) → ((row : List Cell) → gains row ≡ losses row + gained row second)
    → (made : List RowDelta) → AreRowDeltasOf was_now gains changes made → IsDelta was now made
merged_delta was was_now old losses gains now changes first second is_first is_second is_old is_was is_now falls rises made are =
    subst (λ (n : Counts). IsDelta was n made) (sym is_now)
    (subst (IsDelta was gains) (sym are.between)
    (subst (λ (w : Counts). IsDelta was gains (deltas_at w gains are.rows)) (sym is_was)
    (delta_at was gains are.rows (λ row. is_changed row changes) are.once still)))
  where
    still : (row : List Cell) → is_changed row changes ≡ false → was row ≡ gains row
    still row none =
        let taken : lost row first ≡ 0 = ap (lost row) is_first ∙ weights_none takes row changes none in
        let added : gained row second ≡ 0 = ap (gained row) is_second ∙ weights_none adds row changes none in
        let start : old row ≡ was row = ap (λ (w : Counts). w row) is_old in
        let down = falls row in
        let up = rises row in
        omega (arith, taken, added, start, down, up)

-- row deltas between bounded counts are bounded
pub bounded_at : (was staged : Counts) → AreBounded was → AreBounded staged → (rows : List (List Cell)) → All IsBounded (deltas_at was staged rows)
bounded_at was staged low high [] = All-nil IsBounded
bounded_at was staged low high (row ∷ rows) =
    All-append IsBounded (row_delta_between row (was row) (staged row)) (deltas_at was staged rows) (by (was row == staged row)) (bounded_at was staged low high rows)
  where
    by : (b : Bool) → All IsBounded (cond b [] ((record { row = row; before = was row; after = staged row }) ∷ []))
    by true = All-nil IsBounded
    by false = All-cons IsBounded (record { row = row; before = was row; after = staged row }) [] (low row, high row) (All-nil IsBounded)

pub bounded_of : (was staged : Counts) (changes made : List RowDelta) → AreBounded was → AreBounded staged → AreRowDeltasOf was staged changes made → All IsBounded made
bounded_of was staged changes made low high are = subst (All IsBounded) (sym are.between) (bounded_at was staged low high are.rows)
