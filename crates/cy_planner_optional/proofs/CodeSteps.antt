-- Steps of the code: conditions and keys, one by one.
use Rattle.std.proofs.Common.{◌≡◌, ℕ, zero, suc, ◌+◌, ◌<◌, ◌≤◌, List, [], ◌∷◌, ◌++◌, length, map, drop, get_or, append-nil, refl, sym, ap, ◌∙◌, arith}
use Rattle.std.specs.Prelude.{Option, None}
use Rattle.std.specs.List.{range_with_len}
use Rattle.std.proofs.Math.Seq.{drop-cons}
use Rattle.std.proofs.lemmas.List.{drop_all, length-append}
use Rattle.std.proofs.lemmas.List.FromFn.{map-range_with_len_more}
use Rattle.cy_trees.specs.Trees.{Expression}
use Rattle.cy_oneshot_patterns.specs.Places.{Place}
use Rattle.cy_planner_tables.specs.Shared.{other_entries}
use Rattle.cy_planner_tables.specs.Own.{common_count, common_counts}
use Rattle.cy_planner_rows.specs.Conditions.{or_true, with_test, with_tests}
use Rattle.cy_planner_tables.specs.internal.OptionalPairs.{all_of}
use Rattle.cy_planner_tables.proofs.CodeLemmas.{tests_all, tests_append}
use Rattle.cy_planner_optional.specs.Columns.{reading_entries}
use Rattle.cy_planner_optional.specs.internal.PathPairs.{empty_or_equal, empty_or_equal_from, equal_columns, equal_from, looked_count, looked_counts, place_tests, places_tests}
use Rattle.cy_planner_optional.specs.internal.Told.{alike, all_there, is_not_null_at}

-- ---- columns that follow one another

moved : (n count : ℕ) → (n + 1) + count ≡ n + suc count
moved n count = omega arith

unmoved : (n : ℕ) → n ≡ n + 0
unmoved n = omega arith

next_number : (n : ℕ) → suc n ≡ n + 1
next_number n = omega arith

equal_more : (left right count : ℕ) → equal_from left right (suc count) ≡ equal_from left right count ++ equal_columns (right + count) (left + count) ∷ []
equal_more left right zero = λ i. equal_columns (unmoved right i) (unmoved left i) ∷ []
equal_more left right (suc count) =
    ap (λ tests. equal_columns right left ∷ tests)
    (equal_more (left + 1) (right + 1) count ∙ (λ i. equal_from (left + 1) (right + 1) count ++ equal_columns (moved right count i) (moved left count i) ∷ []))

common_more : (at left right count : ℕ) → empty_or_equal_from at left right (suc count) ≡ empty_or_equal_from at left right count ++ empty_or_equal at (right + count) (left + count) ∷ []
common_more at left right zero = λ i. empty_or_equal at (unmoved right i) (unmoved left i) ∷ []
common_more at left right (suc count) =
    ap (λ tests. empty_or_equal at right left ∷ tests)
    (common_more at (left + 1) (right + 1) count ∙ (λ i. empty_or_equal_from at (left + 1) (right + 1) count ++ empty_or_equal at (moved right count i) (moved left count i) ∷ []))

-- one condition more
pub equal_next : (before all after : Option Expression) (test : Expression) (left right more : ℕ) → test ≡ equal_columns (right + more) (left + more) → all ≡ with_tests before (equal_from left right more) → after ≡ with_test all test
    → after ≡ with_tests before (equal_from left right (more + 1))
equal_next before all after test left right more is so_far made =
    made ∙ (λ i. with_test (so_far i) (is i)) ∙ sym (tests_append before (equal_from left right more) (equal_columns (right + more) (left + more) ∷ [])) ∙ ap (with_tests before) (sym (equal_more left right more) ∙ ap (equal_from left right) (next_number more))

pub common_next : (before all after : Option Expression) (test : Expression) (at left right more : ℕ) → test ≡ empty_or_equal at (right + more) (left + more) → all ≡ with_tests before (empty_or_equal_from at left right more) → after ≡ with_test all test
    → after ≡ with_tests before (empty_or_equal_from at left right (more + 1))
common_next before all after test at left right more is so_far made =
    made ∙ (λ i. with_test (so_far i) (is i)) ∙ sym (tests_append before (empty_or_equal_from at left right more) (empty_or_equal at (right + more) (left + more) ∷ [])) ∙ ap (with_tests before) (sym (common_more at left right more) ∙ ap (empty_or_equal_from at left right) (next_number more))

-- ---- the conditions of one place more

module _ {X : Type 0} (f : X → Place) (xs : List X) (i : ℕ) (x : X) (less : i < length xs) (is : x ≡ get_or xs i x) where
  pub cons : drop i xs ≡ x ∷ drop (i + 1) xs
  cons =
      let next : suc i ≡ i + 1 = omega arith in
      drop-cons xs i x less ∙ ap (λ y. y ∷ drop (suc i) xs) (sym is) ∙ ap (λ k. x ∷ drop k xs) next

  pub places_next : (at left looked shared at_more left_more looked_more shared_more : ℕ) (all after start : Option Expression) → after ≡ with_tests all (place_tests at left looked shared (f x))
      → at_more ≡ at + 1 → left_more ≡ left + length (other_entries (f x)) → looked_more ≡ looked + looked_count (f x) → shared_more ≡ shared + common_count (f x)
      → with_tests all (places_tests at left looked shared (map f (drop i xs))) ≡ start
      → with_tests after (places_tests at_more left_more looked_more shared_more (map f (drop (i + 1) xs))) ≡ start
  places_next at left looked shared at_more left_more looked_more shared_more all after start made a b c d so_far =
      (λ j. with_tests (made j) (places_tests (a j) (b j) (c j) (d j) (map f (drop (i + 1) xs))))
      ∙ sym (tests_append all (place_tests at left looked shared (f x)) (places_tests (at + 1) (left + length (other_entries (f x))) (looked + looked_count (f x)) (shared + common_count (f x)) (map f (drop (i + 1) xs))))
      ∙ ap (λ ys. with_tests all (places_tests at left looked shared (map f ys))) (sym cons)
      ∙ so_far

  -- the counts of those that are left
  pub left_next : length (reading_entries (map f (drop i xs))) ≡ length (other_entries (f x)) + length (reading_entries (map f (drop (i + 1) xs)))
  left_next = ap (λ ys. length (reading_entries (map f ys))) cons ∙ length-append (other_entries (f x)) (reading_entries (map f (drop (i + 1) xs)))

  pub looked_next : looked_counts (map f (drop i xs)) ≡ looked_count (f x) + looked_counts (map f (drop (i + 1) xs))
  looked_next = ap (λ ys. looked_counts (map f ys)) cons

  pub shared_next : common_counts (map f (drop i xs)) ≡ common_count (f x) + common_counts (map f (drop (i + 1) xs))
  shared_next = ap (λ ys. common_counts (map f ys)) cons

  pub count_next : length (drop i xs) ≡ 1 + length (drop (i + 1) xs)
  count_next = ap length cons ∙ (let e : suc (length (drop (i + 1) xs)) ≡ 1 + length (drop (i + 1) xs) = omega arith in e)

pub tests_whole : (tests : List Expression) → or_true (with_tests None tests) ≡ all_of tests
tests_whole tests = tests_all tests ∙ ap all_of (append-nil tests)

-- after the last place
pub tests_done : {X : Type 0} (f : X → Place) (xs : List X) (i at left looked shared : ℕ) (all : Option Expression) (tests : List Expression) → length xs ≤ i
    → with_tests all (places_tests at left looked shared (map f (drop i xs))) ≡ with_tests None tests → or_true all ≡ all_of tests
tests_done f xs i at left looked shared all tests past so_far =
    ap or_true (ap (λ ys. with_tests all (places_tests at left looked shared (map f ys))) (sym (drop_all i xs past)) ∙ so_far) ∙ tests_whole tests

-- nodes that are there, where no column is left
pub columns_done : (columns : List ℕ) (i : ℕ) (all : Option Expression) → length columns ≤ i → with_tests all (map is_not_null_at (drop i columns)) ≡ with_tests None (map is_not_null_at columns) → or_true all ≡ all_there columns
columns_done columns i all past so_far =
    ap or_true (ap (λ ks. with_tests all (map is_not_null_at ks)) (sym (drop_all i columns past)) ∙ so_far) ∙ tests_whole (map is_not_null_at columns)

-- ---- keys

pub alike_more : (first more : ℕ) → alike (range_with_len first (more + 1)) ≡ alike (range_with_len first more) ++ record { left = first + more; right = first + more } ∷ []
alike_more first more = map-range_with_len_more (λ (c : ℕ). record { left = c; right = c }) first more (first + more) refl
