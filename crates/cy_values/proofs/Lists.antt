-- Laws of lists, for the proofs of every layer.
use Rattle.std.proofs.Common.{◌≡◌, ℕ, ◌+◌, Bool, true, false, ◌||◌, cond, List, [], ◌∷◌, ◌++◌, filter, map, refl, sym, ap, subst, ◌∙◌, arith}
use Rattle.std.specs.Prelude.{reverse, sum_by}
use Rattle.std.specs.List.{AllByRecursion, list_any}
use Rattle.std.proofs.lemmas.Grind.{reverse_onto}
use Rattle.std.proofs.lemmas.List.Sums.{sum_by-cons}

-- ---- what holds of each element

module _ {A : Type 0} (P : A → Type 0) where
  pub each_append : (xs ys : List A) → AllByRecursion P xs → AllByRecursion P ys → AllByRecursion P (xs ++ ys)
  each_append [] ys left right = right
  each_append (x ∷ xs) ys left right = (left.0, each_append xs ys left.1 right)

  pub each_left : (xs ys : List A) → AllByRecursion P (xs ++ ys) → AllByRecursion P xs
  each_left [] ys each = tt
  each_left (x ∷ xs) ys each = (each.0, each_left xs ys each.1)

  pub each_right : (xs ys : List A) → AllByRecursion P (xs ++ ys) → AllByRecursion P ys
  each_right [] ys each = each
  each_right (x ∷ xs) ys each = each_right xs ys each.1

  pub each_parts : (xs ys : List A) → AllByRecursion P (xs ++ ys) → AllByRecursion P xs × AllByRecursion P ys
  each_parts xs ys each = (each_left xs ys each, each_right xs ys each)

  pub each_filter : (p : A → Bool) (xs : List A) → AllByRecursion P xs → AllByRecursion P (filter p xs)
  each_filter p [] each = tt
  each_filter p (x ∷ xs) each = kept (p x) (each_filter p xs each.1)
    where
      kept : (b : Bool) → AllByRecursion P (filter p xs) → AllByRecursion P (cond b (x ∷ filter p xs) (filter p xs))
      kept true rest = (each.0, rest)
      kept false rest = rest

  pub each_reversed : (xs : List A) → AllByRecursion P xs → AllByRecursion P (reverse xs)
  each_reversed [] each = tt
  each_reversed (x ∷ xs) each = subst (AllByRecursion P) (sym (reverse_onto xs x [])) (each_append (reverse xs) (x ∷ []) (each_reversed xs each.1) (each.0, tt))

pub each_both : {A : Type 0} (P Q : A → Type 0) (xs : List A) → AllByRecursion P xs → AllByRecursion Q xs → AllByRecursion (λ x. P x × Q x) xs
each_both P Q [] one other = tt
each_both P Q (x ∷ xs) one other = ((one.0, other.0), each_both P Q xs one.1 other.1)

pub each_then : {A : Type 0} (P Q : A → Type 0) → ((x : A) → P x → Q x) → (xs : List A) → AllByRecursion P xs → AllByRecursion Q xs
each_then P Q step [] each = tt
each_then P Q step (x ∷ xs) each = (step x each.0, each_then P Q step xs each.1)

-- ---- filters

pub filters_swap : {A : Type 0} (p q : A → Bool) (xs : List A) → filter p (filter q xs) ≡ filter q (filter p xs)
filters_swap p q [] = refl
filters_swap p q (x ∷ xs) = by (p x) (q x) refl refl (filters_swap p q xs)
  where
    by : (a b : Bool) → p x ≡ a → q x ≡ b → filter p (filter q xs) ≡ filter q (filter p xs) → filter p (cond b (x ∷ filter q xs) (filter q xs)) ≡ filter q (cond a (x ∷ filter p xs) (filter p xs))
    by true true first second rest =
        ap (λ c. cond c (x ∷ filter p (filter q xs)) (filter p (filter q xs))) first ∙ ap (λ ys. x ∷ ys) rest
        ∙ sym (ap (λ c. cond c (x ∷ filter q (filter p xs)) (filter q (filter p xs))) second)
    by true false first second rest = rest ∙ sym (ap (λ c. cond c (x ∷ filter q (filter p xs)) (filter q (filter p xs))) second)
    by false true first second rest = ap (λ c. cond c (x ∷ filter p (filter q xs)) (filter p (filter q xs))) first ∙ rest
    by false false first second rest = rest

pub all_passing : {A : Type 0} (test : A → Bool) (xs : List A) → AllByRecursion (λ x. test x ≡ true) xs → filter test xs ≡ xs
all_passing test [] each = refl
all_passing test (x ∷ xs) each = λ i. cond (each.0 i) (x ∷ all_passing test xs each.1 i) (all_passing test xs each.1 i)

pub any_mapped : {A B : Type 0} (p : B → Bool) (f : A → B) (xs : List A) → list_any p (map f xs) ≡ list_any (λ x. p (f x)) xs
any_mapped p f [] = refl
any_mapped p f (x ∷ xs) = ap (λ b. p (f x) || b) (any_mapped p f xs)

-- ---- sums

pub sums_alike : {A : Type 0} (f g : A → ℕ) → ((x : A) → f x ≡ g x) → (xs : List A) → sum_by f xs ≡ sum_by g xs
sums_alike {A} f g alike xs = ap (λ (h : A → ℕ). sum_by h xs) (λ i x. alike x i)

pub sum_of_two : {A : Type 0} (f g : A → ℕ) (xs : List A) → sum_by (λ x. f x + g x) xs ≡ sum_by f xs + sum_by g xs
sum_of_two f g [] = refl
sum_of_two f g (x ∷ xs) =
    let rest = sum_of_two f g xs in
    let whole = sum_by-cons (λ y. f y + g y) x xs in
    let one = sum_by-cons f x xs in
    let other = sum_by-cons g x xs in
    omega (arith, rest, whole, one, other)

pub sum_of_none : {A : Type 0} (xs : List A) → sum_by (λ x. 0) xs ≡ 0
sum_of_none [] = refl
sum_of_none (x ∷ xs) = sum_by-cons (λ x. 0) x xs ∙ ap (λ n. 0 + n) (sum_of_none xs)
