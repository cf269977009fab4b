-- Sums over lists that are made of other lists, and sums of sums.
use Rattle.std.proofs.Common.{◌≡◌, ℕ, ◌+◌, Bool, true, false, cond, List, [], ◌∷◌, ◌++◌, map, filter, refl, sym, ap, ◌∙◌, arith}
use Rattle.std.specs.Prelude.{sum_by, flat_map}
use Rattle.std.specs.List.{AllByRecursion}
use Rattle.std.proofs.lemmas.List.Sums.{sum_by-append, sum_by-cons}
use Rattle.cy_values.proofs.Lists.{each_append, sum_of_none, sum_of_two, sums_alike}

pub sum_each_alike : {A : Type 0} (P : A → Type 0) (f g : A → ℕ) → ((x : A) → P x → f x ≡ g x) → (xs : List A) → AllByRecursion P xs → sum_by f xs ≡ sum_by g xs
sum_each_alike P f g alike [] each = refl
sum_each_alike P f g alike (x ∷ xs) each =
    sum_by-cons f x xs ∙ ap (λ n. n + sum_by f xs) (alike x each.0) ∙ ap (λ n. g x + n) (sum_each_alike P f g alike xs each.1) ∙ sym (sum_by-cons g x xs)

pub sum_map : {A B : Type 0} (f : B → ℕ) (g : A → B) (xs : List A) → sum_by f (map g xs) ≡ sum_by (λ x. f (g x)) xs
sum_map f g [] = refl
sum_map f g (x ∷ xs) = sum_by-cons f (g x) (map g xs) ∙ ap (λ n. f (g x) + n) (sum_map f g xs) ∙ sym (sum_by-cons (λ y. f (g y)) x xs)

pub sum_flat_map : {A B : Type 0} (f : B → ℕ) (g : A → List B) (xs : List A) → sum_by f (flat_map g xs) ≡ sum_by (λ x. sum_by f (g x)) xs
sum_flat_map f g [] = refl
sum_flat_map f g (x ∷ xs) =
    sum_by-append f (g x) (flat_map g xs) ∙ ap (λ n. sum_by f (g x) + n) (sum_flat_map f g xs) ∙ sym (sum_by-cons (λ y. sum_by f (g y)) x xs)

pub sum_filter : {A : Type 0} (f : A → ℕ) (p : A → Bool) (xs : List A) → sum_by f (filter p xs) ≡ sum_by (λ x. cond (p x) (f x) 0) xs
sum_filter f p [] = refl
sum_filter f p (x ∷ xs) =
    elim (p x) as (λ b. sum_by f (cond b (x ∷ filter p xs) (filter p xs)) ≡ cond b (f x) 0 + sum_by (λ y. cond (p y) (f y) 0) xs) [
      | true ↦ sum_by-cons f x (filter p xs) ∙ ap (λ n. f x + n) (sum_filter f p xs)
      | false ↦ sum_filter f p xs ∙ (let e : sum_by (λ y. cond (p y) (f y) 0) xs ≡ 0 + sum_by (λ y. cond (p y) (f y) 0) xs = omega arith in e)
    ] ∙ sym (sum_by-cons (λ y. cond (p y) (f y) 0) x xs)

-- the order in which two lists are gone over makes no difference
pub sum_exchanged : {A B : Type 0} (f : A → B → ℕ) (xs : List A) (ys : List B) → sum_by (λ x. sum_by (λ y. f x y) ys) xs ≡ sum_by (λ y. sum_by (λ x. f x y) xs) ys
sum_exchanged f [] ys = sym (sum_of_none ys)
sum_exchanged f (x ∷ xs) ys =
    sum_by-cons (λ z. sum_by (λ y. f z y) ys) x xs
    ∙ ap (λ n. sum_by (λ y. f x y) ys + n) (sum_exchanged f xs ys)
    ∙ sym (sum_of_two (λ y. f x y) (λ y. sum_by (λ z. f z y) xs) ys)
    ∙ sums_alike (λ y. f x y + sum_by (λ z. f z y) xs) (λ y. sum_by (λ z. f z y) (x ∷ xs)) (λ y. sym (sum_by-cons (λ z. f z y) x xs)) ys

pub all_true : {A : Type 0} (P : A → Type 0) → ((x : A) → P x) → (xs : List A) → AllByRecursion P xs
all_true P is [] = tt
all_true P is (x ∷ xs) = (is x, all_true P is xs)

pub all_map : {A B : Type 0} (P : B → Type 0) (f : A → B) (xs : List A) → AllByRecursion (λ x. P (f x)) xs → AllByRecursion P (map f xs)
all_map P f [] all = tt
all_map P f (x ∷ xs) all = (all.0, all_map P f xs all.1)

pub all_flat_map : {A B : Type 0} (P : B → Type 0) (f : A → List B) (xs : List A) → AllByRecursion (λ x. AllByRecursion P (f x)) xs → AllByRecursion P (flat_map f xs)
all_flat_map P f [] all = tt
all_flat_map P f (x ∷ xs) all = each_append P (f x) (flat_map f xs) all.0 (all_flat_map P f xs all.1)
