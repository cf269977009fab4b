-- Lists of numbers that rise: what comes, what goes, and that two of them with the same numbers are the same.
use Rattle.std.proofs.Common.{◌≡◌, ℕ, ◌+◌, ◌<◌, ◌≤◌, Bool, true, false, cond, not, ◌||◌, ◌&&◌, List, [], ◌∷◌, refl, sym, ap, subst, ◌∙◌, arith, nat_eq, true≢false}
use Rattle.std.specs.Ordering.{nat_cmp, is_eq}
use Rattle.std.specs.Cmp.{nat_cmp_is}
use Rattle.std.specs.declared.cmp.Ordering.{Ordering}
use Rattle.std.proofs.lemmas.Cmp.{ranked}
use Rattle.std.specs.declared.cmp.Ordering.TheVariants.{Less, Equal, Greater}
use Rattle.std.specs.FinMap.Entries.{by_order}
use Rattle.std.proofs.lemmas.Bool.{eqb-true}
use Rattle.std.proofs.lemmas.Bool.Decides.{nat_tests}
use Rattle.std.proofs.lemmas.Map.Lookups.{exact_unsigned}
use Rattle.cy_values.proofs.Booleans.{itself_equal}
use Rattle.cy_index.specs.internal.Numbers.{Rises, is_among, with_number, without_number}

-- tests of truths
or_twice : (a b : Bool) → (a || (a || b)) ≡ (a || b)
or_twice true b = refl
or_twice false b = refl

or_turn : (a b c : Bool) → (a || (b || c)) ≡ (b || (a || c))
or_turn true true c = refl
or_turn true false c = refl
or_turn false b c = refl

not_or : (a b : Bool) → (not a && b) ≡ (not a && (a || b))
not_or true b = refl
not_or false b = refl

-- a smaller number is another
pub other : (n x : ℕ) → n < x → nat_eq n x ≡ false
other n x lt = by (nat_eq n x) refl
  where
    by : (b : Bool) → nat_eq n x ≡ b → nat_eq n x ≡ false
    by true e = absurd (omega (arith, lt, eqb-true n x e))
    by false e = e

-- the two tests of numbers agree
pub same_tests : (m n : ℕ) → is_eq (nat_cmp m n) ≡ nat_eq m n
same_tests m n = grind (arith, nat_tests)

-- numbers that rise from a number on rise from a smaller one
pub rises_from : (low more : ℕ) (xs : List ℕ) → low ≤ more → Rises more xs → Rises low xs
rises_from low more [] le up = tt
rises_from low more (x ∷ xs) le up = (omega (arith, up.0), up.1)

-- a number below all is none of them
pub below : (n low : ℕ) (xs : List ℕ) → n < low → Rises low xs → is_among n xs ≡ false
below n low [] lt up = refl
below n low (x ∷ xs) lt up = ap (λ b. b || is_among n xs) (other n x (omega (arith, up.0))) ∙ below n (x + 1) xs (omega (arith, up.0)) up.1

-- a number below all comes first
pub with_below : (n : ℕ) (xs : List ℕ) → Rises (n + 1) xs → with_number n xs ≡ n ∷ xs
with_below n [] up = refl
with_below n (x ∷ xs) up = ap (λ o. by_order o (n ∷ x ∷ xs) (x ∷ xs) (x ∷ with_number n xs)) (sym (nat_cmp_is n x Less (omega (arith, up.0))))

-- nothing goes where a number is below all
pub without_below : (n low : ℕ) (xs : List ℕ) → n < low → Rises low xs → without_number n xs ≡ xs
without_below n low [] lt up = refl
without_below n low (x ∷ xs) lt up = ap (λ b. cond (not b) (x ∷ without_number n xs) (without_number n xs)) (other n x (omega (arith, up.0))) ∙ ap (λ l. x ∷ l) (without_below n (x + 1) xs (omega (arith, up.0)) up.1)

pub other_back : (n x : ℕ) → x < n → nat_eq n x ≡ false
other_back n x lt = by (nat_eq n x) refl
  where
    by : (b : Bool) → nat_eq n x ≡ b → nat_eq n x ≡ false
    by true e = absurd (omega (arith, lt, eqb-true n x e))
    by false e = e

-- what is among them then
pub among_with : (m n : ℕ) (xs : List ℕ) → is_among m (with_number n xs) ≡ (nat_eq m n || is_among m xs)
among_with m n [] = refl
among_with m n (x ∷ xs) = by (among_with m n xs) (nat_cmp n x) refl
  where
    by : is_among m (with_number n xs) ≡ (nat_eq m n || is_among m xs) → (o : Ordering) → nat_cmp n x ≡ o → is_among m (by_order o (n ∷ x ∷ xs) (x ∷ xs) (x ∷ with_number n xs)) ≡ (nat_eq m n || (nat_eq m x || is_among m xs))
    by rest Less e = refl
    by rest Equal e = sym (or_twice (nat_eq m x) (is_among m xs)) ∙ ap (λ y. nat_eq m y || (nat_eq m x || is_among m xs)) (sym (exact_unsigned n x e))
    by rest Greater e = ap (λ b. nat_eq m x || b) rest ∙ or_turn (nat_eq m x) (nat_eq m n) (is_among m xs)

pub among_without : (m n : ℕ) (xs : List ℕ) → is_among m (without_number n xs) ≡ (not (nat_eq m n) && is_among m xs)
among_without m n [] = sym (nothing (nat_eq m n))
  where
    nothing : (a : Bool) → (not a && false) ≡ false
    nothing true = refl
    nothing false = refl
among_without m n (x ∷ xs) = by (among_without m n xs) (nat_eq n x) refl
  where
    apart : (a : Bool) → nat_eq m n ≡ a → nat_eq n x ≡ false → (nat_eq m x || (not a && is_among m xs)) ≡ (not a && (nat_eq m x || is_among m xs))
    apart true e off = ap (λ b. b || false) (ap (λ k. nat_eq k x) (eqb-true m n e) ∙ off)
    apart false e off = refl

    by : is_among m (without_number n xs) ≡ (not (nat_eq m n) && is_among m xs) → (b : Bool) → nat_eq n x ≡ b → is_among m (cond (not b) (x ∷ without_number n xs) (without_number n xs)) ≡ (not (nat_eq m n) && (nat_eq m x || is_among m xs))
    by rest true e = rest ∙ not_or (nat_eq m n) (is_among m xs) ∙ ap (λ k. not (nat_eq m n) && (nat_eq m k || is_among m xs)) (eqb-true n x e)
    by rest false e = ap (λ b. nat_eq m x || b) rest ∙ apart (nat_eq m n) refl e

-- rising numbers with the same ones among them are the same
pub same_numbers : (low : ℕ) (xs ys : List ℕ) → Rises low xs → Rises low ys → ((n : ℕ) → is_among n xs ≡ is_among n ys) → xs ≡ ys
same_numbers low [] [] up up' same = refl
same_numbers low [] (y ∷ ys) up up' same = absurd (true≢false (sym (same y ∙ ap (λ b. b || is_among y ys) (itself_equal y))))
same_numbers low (x ∷ xs) [] up up' same = absurd (true≢false (sym (ap (λ b. b || is_among x xs) (itself_equal x)) ∙ same x))
same_numbers low (x ∷ xs) (y ∷ ys) up up' same = by (λ up'' each. same_numbers (x + 1) xs ys up.1 up'' each) (nat_cmp x y) refl
  where
    tails : x ≡ y → (n : ℕ) (b : Bool) → nat_eq n x ≡ b → is_among n xs ≡ is_among n ys
    tails is n true e = below n (x + 1) xs (omega (arith, eqb-true n x e)) up.1 ∙ sym (below n (y + 1) ys (omega (arith, eqb-true n x e, is)) up'.1)
    tails is n false e = sym (ap (λ b. b || is_among n xs) e) ∙ same n ∙ ap (λ b. b || is_among n ys) (ap (nat_eq n) (sym is) ∙ e)

    by : (Rises (x + 1) ys → ((n : ℕ) → is_among n xs ≡ is_among n ys) → xs ≡ ys) → (o : Ordering) → nat_cmp x y ≡ o → x ∷ xs ≡ y ∷ ys
    by rest Less e = absurd (true≢false (sym (ap (λ b. b || is_among x xs) (itself_equal x)) ∙ same x ∙ below x y (y ∷ ys) (ranked x y Less (sym e)) (omega arith, up'.1)))
    by rest Greater e = absurd (true≢false (sym (ap (λ b. b || is_among y ys) (itself_equal y)) ∙ sym (same y) ∙ below y x (x ∷ xs) (ranked x y Greater (sym e)) (omega arith, up.1)))
    by rest Equal e =
        let is = exact_unsigned x y e in
        let more = rest (subst (λ k. Rises (k + 1) ys) (sym is) up'.1) (λ n. tails is n (nat_eq n x) refl) in
        λ i. is i ∷ more i
