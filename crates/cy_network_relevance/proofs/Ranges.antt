-- Entries by rising numbers make, number by number, what is found there.
use Rattle.std.proofs.Common.{◌≡◌, ℕ, zero, suc, ◌+◌, ◌<◌, ◌≤◌, Bool, true, false, cond, List, [], ◌∷◌, ◌++◌, Option, None, Some, refl, sym, ap, ◌∙◌, nat_eq, arith}
use Rattle.std.specs.Prelude.{flat_map}
use Rattle.std.specs.List.{AllByRecursion}
use Rattle.std.specs.declared.cmp.Ordering.{Ordering}
use Rattle.std.specs.Ordering.{eq_by_cmp, is_lt, nat_cmp}
use Rattle.std.specs.FinMap.Entries as entries
use Rattle.std.proofs.lemmas.Bool.{and_parts, eqb-true}
use Rattle.std.proofs.lemmas.Bool.Decides.{nat_tests}
use Rattle.cy_network_sources.proofs.Keys.{same_by_order}
use Rattle.cy_network_sources.proofs.Through.{each_both, each_weaker}

less_by_order : (m n : ℕ) → is_lt (nat_cmp m n) ≡ true → m < n
less_by_order m n is = grind (arith, nat_tests)

other_by_test : (m n : ℕ) → m < n → nat_eq m n ≡ false
other_by_test m n less = grind (arith, nat_tests)

later_by_test : (m n : ℕ) → n < m → nat_eq m n ≡ false
later_by_test m n less = grind (arith, nat_tests)

apart_by_test : (m n : ℕ) → nat_eq m n ≡ false → m ≤ n → m < n
apart_by_test m n other few = grind (arith, nat_tests)

module _ {K V R : Type 0} (number : K → ℕ) (key : ℕ → K) (forth : (n : ℕ) → number (key n) ≡ n) (made : ℕ → Option V → List R) (none : (n : ℕ) → made n None ≡ []) where
  abbrev order : K → K → Ordering
  order x y = nat_cmp (number x) (number y)

  abbrev found : List (K × V) → ℕ → Option V
  found es n = entries.find order (key n) es

  -- what a range of this many numbers makes
  abbrev spans : ℕ → ℕ → (ℕ → Option V) → List R
  spans a zero at = []
  spans a (suc m) at = made a (at a) ++ spans (a + 1) m at

  spans_same : (m a : ℕ) (at other : ℕ → Option V) → ((n : ℕ) → a ≤ n → made n (at n) ≡ made n (other n)) → spans a m at ≡ spans a m other
  spans_same zero a at other same = refl
  spans_same (suc m) a at other same =
      let here : made a (at a) ≡ made a (other a) = same a (omega arith) in
      let rest : spans (a + 1) m at ≡ spans (a + 1) m other = spans_same m (a + 1) at other (λ n more. same n (omega (arith, more))) in
      λ i. here i ++ rest i

  spans_none : (m a : ℕ) → spans a m (λ n. None) ≡ []
  spans_none zero a = refl
  spans_none (suc m) a = ap (λ rows. rows ++ spans (a + 1) m (λ n. None)) (none a) ∙ spans_none m (a + 1)

  test_is : (n : ℕ) (k : K) → eq_by_cmp order (key n) k ≡ nat_eq n (number k)
  test_is n k = same_by_order (number (key n)) (number k) ∙ ap (λ m. nat_eq m (number k)) (forth n)

  passed_over : (n : ℕ) (e : K × V) (es : List (K × V)) → nat_eq n (number e.0) ≡ false → found (e ∷ es) n ≡ found es n
  passed_over n e es other = ap (λ b. cond b (Some e.1) (found es n)) (test_is n e.0 ∙ other)

  not_found : (n : ℕ) (es : List (K × V)) → AllByRecursion (λ e. n < number e.0) es → found es n ≡ None
  not_found n [] each = refl
  not_found n (e ∷ es) each = passed_over n e es (other_by_test n (number e.0) each.0) ∙ not_found n es each.1

  later : (k : K) (es : List (K × V)) → entries.below_all order k es ≡ true → AllByRecursion (λ e. number k < number e.0) es
  later k [] below = tt
  later k (e ∷ es) below = (less_by_order (number k) (number e.0) (and_parts _ _ below).0, later k es (and_parts _ _ below).1)

  abbrev IsBetween : ℕ → ℕ → K × V → Type 0
  IsBetween a m e = (a ≤ number e.0) × (number e.0 < a + m)

  -- entries after one that has a number of a range have the numbers after it
  rest_between : (a m : ℕ) (e : K × V) (es : List (K × V)) → a ≤ number e.0 → AllByRecursion (IsBetween a (suc m)) es → AllByRecursion (λ f. number e.0 < number f.0) es
      → AllByRecursion (IsBetween (a + 1) m) es
  rest_between a m e es few between above =
      each_weaker (λ f. IsBetween a (suc m) f × (number e.0 < number f.0)) (IsBetween (a + 1) m)
      (λ f known. let high = known.0.1 in let low = known.1 in (omega (arith, few, low), omega (arith, high))) es
      (each_both (IsBetween a (suc m)) (λ f. number e.0 < number f.0) es between above)

  spans_of : (m a : ℕ) (es : List (K × V)) → AllByRecursion (IsBetween a m) es → entries.is_sorted order es ≡ true → flat_map (λ e. made (number e.0) (Some e.1)) es ≡ spans a m (found es)
  spans_of m a [] between rising = sym (spans_none m a)
  spans_of zero a (e ∷ es) between rising = let low = between.0.0 in let high = between.0.1 in absurd (omega (arith, low, high))
  spans_of (suc m) a (e ∷ es) between rising =
      by (spans_of m (a + 1) es rest (and_parts _ _ rising).1) (λ low high. spans_of m (a + 1) (e ∷ es) ((low, high), rest) rising) (nat_eq a (number e.0)) refl
    where
      above : AllByRecursion (λ f. number e.0 < number f.0) es
      above = later e.0 es (and_parts _ _ rising).0

      rest : AllByRecursion (IsBetween (a + 1) m) es
      rest = rest_between a m e es between.0.0 between.1 above

      by : flat_map (λ f. made (number f.0) (Some f.1)) es ≡ spans (a + 1) m (found es)
          → (a + 1 ≤ number e.0 → number e.0 < a + 1 + m → flat_map (λ f. made (number f.0) (Some f.1)) (e ∷ es) ≡ spans (a + 1) m (found (e ∷ es)))
          → (b : Bool) → nat_eq a (number e.0) ≡ b → made (number e.0) (Some e.1) ++ flat_map (λ f. made (number f.0) (Some f.1)) es ≡ made a (found (e ∷ es) a) ++ spans (a + 1) m (found (e ∷ es))
      by after whole true is =
          let same : a ≡ number e.0 = eqb-true a (number e.0) is in
          let here : found (e ∷ es) a ≡ Some e.1 = ap (λ b. cond b (Some e.1) (found es a)) (test_is a e.0 ∙ is) in
          let head : made (number e.0) (Some e.1) ≡ made a (found (e ∷ es) a) = ap (λ n. made n (Some e.1)) (sym same) ∙ ap (made a) (sym here) in
          let tail : flat_map (λ f. made (number f.0) (Some f.1)) es ≡ spans (a + 1) m (found (e ∷ es)) =
          after ∙ spans_same m (a + 1) (found es) (found (e ∷ es)) (λ n more. ap (made n) (sym (passed_over n e es (later_by_test n (number e.0) (omega (arith, more, same)))))) in
          λ i. head i ++ tail i
      by after whole false is =
          let low : a < number e.0 = apart_by_test a (number e.0) is between.0.0 in
          let high = between.0.1 in
          let nothing : found (e ∷ es) a ≡ None =
          passed_over a e es is ∙ not_found a es (each_weaker (λ f. number e.0 < number f.0) (λ f. a < number f.0) (λ f more. omega (arith, low, more)) es above) in
          whole (omega (arith, low)) (omega (arith, high)) ∙ ap (λ rows. rows ++ spans (a + 1) m (found (e ∷ es))) (sym (ap (made a) nothing ∙ none a))

  -- more than each of the numbers
  abbrev most : List (K × V) → ℕ
  most [] = 0
  most (e ∷ es) = number e.0 + 1 + most es

  within : (es : List (K × V)) (m : ℕ) → most es ≤ m → AllByRecursion (IsBetween 0 m) es
  within [] m few = tt
  within (e ∷ es) m few = ((omega arith, omega (arith, few)), within es m (omega (arith, few)))

  -- where what is found makes the same at each number, the entries do
  pub same_entries : (es fs : List (K × V)) → entries.is_sorted order es ≡ true → entries.is_sorted order fs ≡ true
      → ((n : ℕ) → made n (entries.find order (key n) es) ≡ made n (entries.find order (key n) fs))
      → flat_map (λ e. made (number e.0) (Some e.1)) es ≡ flat_map (λ e. made (number e.0) (Some e.1)) fs
  same_entries es fs rising rising_too same =
      let m = most es + most fs in
      spans_of m 0 es (within es m (omega arith)) rising
      ∙ spans_same m 0 (found es) (found fs) (λ n more. same n)
      ∙ sym (spans_of m 0 fs (within fs m (omega arith)) rising_too)
