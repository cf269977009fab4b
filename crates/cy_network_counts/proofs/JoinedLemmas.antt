-- How often a row counts in an outer join of lists of rows.
use Rattle.std.proofs.Common.{◌≡◌, ℕ, ◌+◌, ◌*◌, ◌<◌, ◌==◌, Bool, true, false, cond, ◌&&◌, List, [], ◌∷◌, ◌++◌, refl, sym, ap, ◌∙◌, filter, length, take, drop, suc, zero, arith}
use Rattle.std.specs.Prelude.{count_by, flat_map, nat_lt}
use Rattle.std.specs.List.{All}
use Rattle.std.proofs.lemmas.Bool.Decides.{nat_tests}
use Rattle.std.proofs.lemmas.List.{take-append-drop}
use Rattle.std.proofs.lemmas.List.Elements.{All-cons, All-nil}
use Rattle.std.proofs.lemmas.List.Sums.{length-filter}
use Rattle.std.proofs.Math.Nat.{mul-zero, zero-mul}
use Rattle.std.proofs.lemmas.Bool.{and_parts}
use Rattle.cy_values.specs.declared.rows.Cell.{Cell}
use Rattle.cy_values.specs.Bag.{count_of}
use Rattle.cy_trees.specs.Trees.{Expression}
use Rattle.cy_values.specs.Same.{is_row}
use Rattle.cy_values.proofs.SameRows.{row_itself, same_row}
use Rattle.cy_network_memory.specs.Counts.{Counts}
use Rattle.cy_planner_algebra.specs.declared.operators.KeyColumns.{KeyColumns}
use Rattle.cy_planner_algebra.specs.Expressions.{holds}
use Rattle.cy_planner_algebra.specs.Keys.{meet}
use Rattle.cy_planner_algebra.specs.Meaning.{is_partner, nulls, or_nulls, outer_joined, paired}
use Rattle.cy_planner_algebra.proofs.Counts.{count_cons, count_flat_map, count_passing, none_if, sum_alike, sum_passing}
use Rattle.cy_planner_algebra.proofs.Pairs.{count_or_nulls, pair_step, not_zero}
use Rattle.cy_planner_algebra.proofs.PartCounts.{product_if}
use Rattle.cy_network_operators.specs.Deltas.{counts}
use Rattle.cy_network_operators.proofs.PairLemmas.{split_row}
use Rattle.cy_network_counts.specs.Outer.{AreNumbersOfPartners, are_matched}
use Rattle.cy_network_counts.specs.internal.OuterMatches.{matched_counts}
use Rattle.cy_network_counts.specs.internal.OuterNulls.{outer_counts}
use Rattle.cy_network_operators.specs.Partners.{null_count}
use Rattle.cy_network_counts.proofs.NumberLemmas.{a_row_passes, some_number}
use Rattle.cy_network_counts.proofs.Naturals.{factors, positive}

-- ---- a row that is made of two

count_paired : (width : ℕ) (row l : List Cell) (rs : List (List Cell)) → length l ≡ width → count_of row (paired l rs) ≡ cond (is_row (take width row) l) (count_of (drop width row) rs) 0
count_paired width row l [] long = sym (none_if (is_row (take width row) l))
count_paired width row l (r ∷ rs) long =
    count_cons row (l ++ r) (paired l rs)
    ∙ ap (λ s. cond s 1 0 + count_of row (paired l rs)) (split_row row l r ∙ ap (λ n. is_row (take n row) l && is_row (drop n row) r) long)
    ∙ ap (λ n. cond (is_row (take width row) l && is_row (drop width row) r) 1 0 + n) (count_paired width row l rs long)
    ∙ pair_step (is_row (take width row) l) (is_row (drop width row) r) (count_of (drop width row) rs)
    ∙ ap (λ n. cond (is_row (take width row) l) n 0) (sym (count_cons (drop width row) r rs))

count_whole : (width : ℕ) (row : List Cell) (f : List Cell → List (List Cell)) (ls : List (List Cell)) → All (λ l. length l ≡ width) ls
    → count_of row (flat_map (λ l. paired l (f l)) ls) ≡ count_of (take width row) ls * count_of (drop width row) (f (take width row))
count_whole width row f ls wide =
    count_flat_map (is_row row) (λ l. paired l (f l)) ls
    ∙ sum_alike (λ l. length l ≡ width) (λ l. count_of row (paired l (f l))) (λ l. cond (is_row (take width row) l) (count_of (drop width row) (f (take width row))) 0)
    (λ l is. count_paired width row l (f l) is ∙ of_the_same l (is_row (take width row) l) refl) ls wide
    ∙ sum_passing (is_row (take width row)) (count_of (drop width row) (f (take width row))) ls
  where
    of_the_same : (l : List Cell) (s : Bool) → is_row (take width row) l ≡ s → cond s (count_of (drop width row) (f l)) 0 ≡ cond s (count_of (drop width row) (f (take width row))) 0
    of_the_same l true is = ap (λ r. count_of (drop width row) (f r)) (sym (same_row (take width row) l is))
    of_the_same l false is = refl

-- rows that are wide wherever they count
pub wide_list : (width : ℕ) (rows : List (List Cell)) → ((row : List Cell) → 0 < count_of row rows → length row ≡ width) → All (λ r. length r ≡ width) rows
wide_list width [] wide = All-nil (λ r. length r ≡ width)
wide_list width (x ∷ xs) wide =
    All-cons (λ r. length r ≡ width) x xs
    (wide x (let e : count_of x (x ∷ xs) ≡ 1 + count_of x xs = count_cons x x xs ∙ ap (λ b. cond b 1 0 + count_of x xs) (row_itself x) in omega (arith, e)))
    (wide_list width xs (λ row some. wide row (let e = count_cons row x xs in omega (arith, e, some))))

-- ---- how many pass

pub some_pass : (p : List Cell → Bool) (other : List Cell) (xs : List (List Cell)) → p other ≡ true → 0 < count_of other xs → 0 < count_by p xs
some_pass p other xs passes some = by (filter p xs) refl
  where
    by : (found : List (List Cell)) → filter p xs ≡ found → 0 < count_by p xs
    by [] is =
        let none : count_of other xs ≡ 0 = ap (λ b. cond b (count_of other xs) 0) (sym passes) ∙ sym (count_passing p other xs) ∙ ap (count_of other) is in
        absurd (omega (arith, none, some))
    by (x ∷ found) is = let e : length (x ∷ found) ≡ count_by p xs = ap length (sym is) ∙ length-filter p xs in omega (arith, e)

one_that_passes : (p : List Cell → Bool) (xs : List (List Cell)) → 0 < count_by p xs → (other : List Cell) × ((p other ≡ true) × (0 < count_of other xs))
one_that_passes p xs some = by (filter p xs) refl
  where
    split : (x : List Cell) (b : Bool) (n : ℕ) → 0 < cond b n 0 → (b ≡ true) × (0 < n)
    split x true n more = (refl, more)
    split x false n more = absurd (omega (arith, more))

    by : (found : List (List Cell)) → filter p xs ≡ found → (other : List Cell) × ((p other ≡ true) × (0 < count_of other xs))
    by [] is = let e : 0 ≡ count_by p xs = ap length (sym is) ∙ length-filter p xs in absurd (omega (arith, e, some))
    by (x ∷ found) is =
        let e : count_of x (x ∷ found) ≡ 1 + count_of x found = count_cons x x found ∙ ap (λ b. cond b 1 0 + count_of x found) (row_itself x) in
        let f : cond (p x) (count_of x xs) 0 ≡ count_of x (x ∷ found) = sym (count_passing p x xs) ∙ ap (count_of x) is in
        (x, split x (p x) (count_of x xs) (omega (arith, e, f)))

-- ---- the count of a row

two_tests : (h m : Bool) (n : ℕ) → cond h (cond m n 0) 0 ≡ cond (m && h) n 0
two_tests true true n = refl
two_tests true false n = refl
two_tests false true n = refl
two_tests false false n = refl

above : (n : ℕ) → nat_lt 0 n ≡ true → 0 < n
above n h = grind (arith, nat_tests)

pub multiplied : (a b : ℕ) → 0 < a → 0 < b → 0 < a * b
multiplied zero b one other = absurd (omega (arith, one))
multiplied (suc a) zero one other = absurd (omega (arith, other))
multiplied (suc a) (suc b) one other = omega arith

module _ (keys : List KeyColumns) (test : Expression) (width k : ℕ) (lefts rights : List (List Cell)) (numbers : Counts)
    (wide : All (λ l. length l ≡ width) lefts) (held : AreNumbersOfPartners keys test (counts lefts) (counts rights) numbers) (row : List Cell) where
  abbrev pub a : List Cell
  a = take width row

  abbrev pub b : List Cell
  b = drop width row

  abbrev pub left : ℕ
  left = count_of a lefts

  abbrev pub right : ℕ
  right = count_of b rights

  abbrev pub found : ℕ
  found = count_by (is_partner keys test a) rights

  abbrev pub only : Bool
  only = is_row b (nulls k)

  abbrev pub pair : ℕ
  pair = matched_counts keys test width (counts lefts) (counts rights) row

  pair_is : pair ≡ cond (is_partner keys test a b) (left * right) 0
  pair_is =
      ap (λ r. cond (holds test r) (cond (meet keys a b) (left * right) 0) 0) (sym (take-append-drop width row))
      ∙ two_tests (holds test (a ++ b)) (meet keys a b) (left * right)

  -- a row with partners has a number of them, and one with a number has partners
  numbered : 0 < left → 0 < found → 0 < numbers a
  numbered counts_left some =
      let one = one_that_passes (is_partner keys test a) rights some in
      some_number (are_matched keys test (counts lefts) (counts rights) a) one.0 (numbers a)
      (ap (λ t. t && nat_lt 0 (left * count_of one.0 rights)) one.1.0 ∙ positive (left * count_of one.0 rights) (multiplied left (count_of one.0 rights) counts_left one.1.1)) (held a)

  unnumbered : 0 < numbers a → 0 < found
  unnumbered some =
      let one = a_row_passes (are_matched keys test (counts lefts) (counts rights) a) (numbers a) some (held a) in
      let parts = and_parts (is_partner keys test a one.0) (nat_lt 0 (left * count_of one.0 rights)) one.1 in
      let counted = factors left (count_of one.0 rights) (above (left * count_of one.0 rights) parts.1) in
      some_pass (is_partner keys test a) one.0 rights parts.0 counted.1

  none : 0 ≡ found → pair ≡ 0
  none gone = pair_is ∙ by (is_partner keys test a b) refl right refl
    where
      by : (p : Bool) → is_partner keys test a b ≡ p → (n : ℕ) → right ≡ n → cond p (left * right) 0 ≡ 0
      by true is zero right_is = ap (λ n. left * n) right_is ∙ mul-zero left
      by true is (suc n) right_is =
          let some : 0 < found = some_pass (is_partner keys test a) b rights is (let e = right_is in omega (arith, e)) in
          absurd (omega (arith, gone, some))
      by false is n right_is = refl

  counted : (l c n : ℕ) → left ≡ l → found ≡ c → numbers a ≡ n
      → cond only (null_count n l pair) pair ≡ l * cond (c == 0) (cond only 1 0) (cond (is_partner keys test a b) right 0)
  counted zero c n l_is c_is n_is =
      let gone : pair ≡ 0 = pair_is ∙ ap (λ m. cond (is_partner keys test a b) (m * right) 0) l_is ∙ zeros (is_partner keys test a b) in
      ap (λ m. cond only (null_count n 0 m) m) gone ∙ empty only n ∙ sym (zero-mul (cond (c == 0) (cond only 1 0) (cond (is_partner keys test a b) right 0)))
    where
      zeros : (p : Bool) → cond p (0 * right) 0 ≡ 0
      zeros true = zero-mul right
      zeros false = refl

      empty : (o : Bool) (m : ℕ) → cond o (null_count m 0 0) 0 ≡ 0
      empty true m = none_if (m == 0)
      empty false m = refl
  counted (suc l) zero zero l_is c_is n_is =
      ap (λ m. cond only (suc l) m) (none (sym c_is)) ∙ one only
    where
      one : (o : Bool) → cond o (suc l) 0 ≡ suc l * cond o 1 0
      one true = let e : suc l * 1 ≡ suc l = omega arith in sym e
      one false = sym (mul-zero (suc l))
  counted (suc l) zero (suc n) l_is c_is n_is = let more = unnumbered (omega (arith, n_is)) in absurd (omega (arith, more, c_is))
  counted (suc l) (suc c) zero l_is c_is n_is = let more = numbered (omega (arith, l_is)) (omega (arith, c_is)) in absurd (omega (arith, more, n_is))
  counted (suc l) (suc c) (suc n) l_is c_is n_is =
      ap (λ z. cond only (cond z (suc l) pair) pair) (not_zero n) ∙ either only ∙ pair_is ∙ ap (λ m. cond (is_partner keys test a b) (m * right) 0) l_is
      ∙ sym (product_if (is_partner keys test a b) (suc l) right)
      ∙ sym (ap (λ z. suc l * cond z (cond only 1 0) (cond (is_partner keys test a b) right 0)) (not_zero c))
    where
      either : (o : Bool) → cond o pair pair ≡ pair
      either true = refl
      either false = refl

  pub outer_counted : outer_counts keys test width k (counts lefts) (counts rights) numbers row ≡ counts (outer_joined keys test k lefts rights) row
  outer_counted =
      counted left found (numbers a) refl refl refl
      ∙ ap (λ n. left * n) (sym (count_or_nulls k b (is_partner keys test a) rights))
      ∙ sym (count_whole width row (λ l. or_nulls k (filter (is_partner keys test l) rights)) lefts wide)
