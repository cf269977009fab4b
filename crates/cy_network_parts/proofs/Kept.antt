-- How the columns that a projection keeps are found, in one pass over what it makes.
use Rattle.std.proofs.Common.{◌≡◌, ℕ, zero, suc, ◌+◌, ◌<◌, ◌≤◌, ◌==◌, ◌||◌, Bool, true, false, cond, List, [], ◌∷◌, ◌++◌, Option, None, Some, length, refl, sym, ap, subst, ◌∙◌, arith}
use Rattle.std.specs.Prelude.{is_some, slice_index_or}
use Rattle.std.specs.List.{AllPass, count_by, list_all, range_with_len}
use Rattle.std.specs.Option.{option_map}
use Rattle.std.proofs.lemmas.Bool.Decides.{nat_tests}
use Rattle.std.proofs.lemmas.List.{ext_get_or}
use Rattle.std.proofs.lemmas.List.Elements.{All-head, All-tail}
use Rattle.std.proofs.lemmas.List.Folds.{list_all-map}
use Rattle.std.proofs.lemmas.List.FromFn.{get_or-map-range_with_len, length-map-range_with_len, length-range_with_len}
use Rattle.std.proofs.lemmas.List.Sums.{AllPass-from_list_all, sum_by-cons}
use Rattle.std.proofs.lemmas.Bool.{eqb-true}
use Rattle.cy_values.proofs.Naturals.{nothing_added}
use Rattle.cy_network_counts.specs.Merges.{all_columns}
use Rattle.cy_planner_algebra.specs.Plans.{Output}
use Rattle.cy_network_relevance.specs.Lists.{column_alone}
use Rattle.cy_network_sources.specs.Scans.{is_column, is_this, kept_at}
use Rattle.cy_network_relevance.proofs.Rules.{alone_is}
use Rattle.cy_network_parts.specs.Memories.{keeps_all}
use Rattle.cy_network_parts.specs.internal.Kept.{kept_flags}

-- ---- one more output

some_moved : (o : Option ℕ) → is_some (option_map suc o) ≡ is_some o
some_moved None = refl
some_moved (Some n) = refl

some_first : (b : Bool) → is_some {T = ℕ} (cond b (Some 0) None) ≡ b
some_first true = refl
some_first false = refl

some_next : (b c : Bool) (found more : Option ℕ) → is_some more ≡ (is_some found || c)
    → is_some (cond b (Some 0) (option_map suc more)) ≡ (is_some (cond b (Some 0) (option_map suc found)) || c)
some_next true c found more is = refl
some_next false c found more is = some_moved more ∙ is ∙ ap (λ so. so || c) (sym (some_moved found))

-- a column is kept by some outputs and one more where the first keep it or this one is it
pub kept_more : (k : ℕ) (os : List Output) (o : Output) → is_some (kept_at k (os ++ o ∷ [])) ≡ (is_some (kept_at k os) || is_column k o)
kept_more k [] o = some_first (is_column k o)
kept_more k (x ∷ os) o = some_next (is_column k x) (is_column k o) (kept_at k os) (kept_at k (os ++ o ∷ [])) (kept_more k os o)

-- ---- all outputs

pub flags_are : (number : ℕ) (outputs : List Output) (flags : List Bool) → length flags ≡ number → ((k : ℕ) → k < number → slice_index_or flags k false ≡ is_some (kept_at k outputs)) → flags ≡ kept_flags number outputs
flags_are number outputs flags long at =
    let kept = λ (column : ℕ). is_some (kept_at column outputs) in
    ext_get_or false flags (kept_flags number outputs) (long ∙ sym (length-map-range_with_len kept 0 number))
    (λ k less. at k (subst (λ n. k < n) long less) ∙ sym (get_or-map-range_with_len kept 0 number k k false (subst (λ n. k < n) long less) (nothing_added k)))

pub all_flags : (number : ℕ) (outputs : List Output) → list_all (λ flag. flag) (kept_flags number outputs) ≡ keeps_all number outputs
all_flags number outputs = list_all-map (λ flag. flag) (λ column. is_some (kept_at column outputs)) (all_columns number)

-- ---- fewer outputs than columns don't keep all

abbrev one_if : Bool → ℕ
one_if b = cond b 1 0

count_two : (f g h : ℕ → Bool) → ((k : ℕ) → one_if (f k) ≤ one_if (g k) + one_if (h k)) → (xs : List ℕ) → count_by f xs ≤ count_by g xs + count_by h xs
count_two f g h each [] = omega arith
count_two f g h each (x ∷ xs) =
    let a = sum_by-cons (λ k. one_if (f k)) x xs in
    let b = sum_by-cons (λ k. one_if (g k)) x xs in
    let c = sum_by-cons (λ k. one_if (h k)) x xs in
    let one = each x in
    let rest = count_two f g h each xs in
    omega (arith, a, b, c, one, rest)

count_none : (xs : List ℕ) → count_by (λ k. false) xs ≡ 0
count_none [] = refl
count_none (x ∷ xs) = let first = sum_by-cons (λ (k : ℕ). one_if false) x xs in let rest = count_none xs in omega (arith, first, rest)

differs : (other a : ℕ) → other < a → (other == a) ≡ false
differs other a less = grind (arith, nat_tests)

-- numbers one after another that begin past a number don't hold it
count_after : (other a n : ℕ) → other < a → count_by (λ k. other == k) (range_with_len a n) ≡ 0
count_after other a zero less = refl
count_after other a (suc n) less =
    let first = sum_by-cons (λ k. one_if (other == k)) a (range_with_len (a + 1) n) in
    let no = ap one_if (differs other a less) in
    let rest = count_after other (a + 1) n (omega (arith, less)) in
    omega (arith, first, no, rest)

-- and others hold it once at most
count_this : (other a n : ℕ) → count_by (λ k. other == k) (range_with_len a n) ≤ 1
count_this other a zero = omega arith
count_this other a (suc n) = by (count_this other (a + 1) n) (other == a) refl
  where
    by : count_by (λ k. other == k) (range_with_len (a + 1) n) ≤ 1 → (b : Bool) → (other == a) ≡ b → count_by (λ k. other == k) (range_with_len a (suc n)) ≤ 1
    by once true is =
        let first = sum_by-cons (λ k. one_if (other == k)) a (range_with_len (a + 1) n) in
        let yes = ap one_if is in
        let same = eqb-true other a is in
        let rest = count_after other (a + 1) n (omega (arith, same)) in
        omega (arith, first, yes, rest)
    by once false is =
        let first = sum_by-cons (λ k. one_if (other == k)) a (range_with_len (a + 1) n) in
        let no = ap one_if is in
        omega (arith, first, no, once)

count_alone : (found : Option ℕ) (number : ℕ) → count_by (λ k. is_this k found) (all_columns number) ≤ 1
count_alone None number = let none = count_none (all_columns number) in omega (arith, none)
count_alone (Some other) number = count_this other 0 number

one_more : (b : Bool) (found : Option ℕ) → one_if (is_some (cond b (Some 0) (option_map suc found))) ≤ one_if b + one_if (is_some found)
one_more true None = omega arith
one_more true (Some n) = omega arith
one_more false None = omega arith
one_more false (Some n) = omega arith

-- no more columns are kept than a projection makes
count_kept : (number : ℕ) (outputs : List Output) → count_by (λ k. is_some (kept_at k outputs)) (all_columns number) ≤ length outputs
count_kept number [] = let none = count_none (all_columns number) in omega (arith, none)
count_kept number (o ∷ os) =
    let both =
    count_two (λ k. is_some (kept_at k (o ∷ os))) (λ k. is_this k (column_alone o)) (λ k. is_some (kept_at k os))
    (λ k. subst (λ b. one_if (is_some (kept_at k (o ∷ os))) ≤ one_if b + one_if (is_some (kept_at k os))) (alone_is k o) (one_more (is_column k o) (kept_at k os)))
    (all_columns number) in
    let one = count_alone (column_alone o) number in
    let rest = count_kept number os in
    omega (arith, both, one, rest)

count_all : (f : ℕ → Bool) (xs : List ℕ) → AllPass f xs → count_by f xs ≡ length xs
count_all f [] each = refl
count_all f (x ∷ xs) each =
    let P : ℕ → Type 0 = λ k. f k ≡ true in
    let first = sum_by-cons (λ k. one_if (f k)) x xs in
    let yes = ap one_if (All-head P x xs each) in
    let rest = count_all f xs (All-tail P x xs each) in
    omega (arith, first, yes, rest)

pub too_few : (number : ℕ) (outputs : List Output) → length outputs < number → keeps_all number outputs ≡ false
too_few number outputs fewer = by (keeps_all number outputs) refl
  where
    kept : ℕ → Bool
    kept k = is_some (kept_at k outputs)

    by : (b : Bool) → keeps_all number outputs ≡ b → keeps_all number outputs ≡ false
    by false is = is
    by true is =
        let all = count_all kept (all_columns number) (AllPass-from_list_all kept (all_columns number) is) in
        let long = length-range_with_len 0 number in
        let most = count_kept number outputs in
        absurd (omega (arith, all, long, most, fewer))
