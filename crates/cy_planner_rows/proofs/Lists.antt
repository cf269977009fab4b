-- Lists that are made of others, where something holds of each element.
use Rattle.std.proofs.Common.{◌≡◌, ℕ, zero, suc, ◌+◌, ◌≤◌, Bool, true, false, cond, List, [], ◌∷◌, length, map, filter, get_or, take, drop, refl, sym, ap, ◌∙◌, arith}
use Rattle.std.specs.List.{All, AllByRecursion, range_with_len}
use Rattle.std.proofs.lemmas.List.{drop_more}
use Rattle.std.proofs.lemmas.List.Elements.{All-cons, All-head, All-nil, All-tail}

pub each_of_all : {A : Type 0} (P : A → Type 0) (xs : List A) → All P xs → AllByRecursion P xs
each_of_all P [] all = tt
each_of_all P (x ∷ xs) all = (All-head P x xs all, each_of_all P xs (All-tail P x xs all))

pub all_of_each : {A : Type 0} (P : A → Type 0) (xs : List A) → AllByRecursion P xs → All P xs
all_of_each P [] each = All-nil P
all_of_each P (x ∷ xs) each = All-cons P x xs each.0 (all_of_each P xs each.1)

pub each_mapped : {A B : Type 0} (P : A → Type 0) (Q : B → Type 0) (f : A → B) → ((x : A) → P x → Q (f x)) → (xs : List A) → AllByRecursion P xs → AllByRecursion Q (map f xs)
each_mapped P Q f step [] each = tt
each_mapped P Q f step (x ∷ xs) each = (step x each.0, each_mapped P Q f step xs each.1)

pub map_alike : {A B : Type 0} (P : A → Type 0) (f g : A → B) → ((x : A) → P x → f x ≡ g x) → (xs : List A) → AllByRecursion P xs → map f xs ≡ map g xs
map_alike P f g step [] each = refl
map_alike P f g step (x ∷ xs) each = λ i. step x each.0 i ∷ map_alike P f g step xs each.1 i

pub map_same : {A : Type 0} (P : A → Type 0) (f : A → A) → ((x : A) → P x → f x ≡ x) → (xs : List A) → AllByRecursion P xs → map f xs ≡ xs
map_same P f step [] each = refl
map_same P f step (x ∷ xs) each = λ i. step x each.0 i ∷ map_same P f step xs each.1 i

pub map_twice : {A B C : Type 0} (P : A → Type 0) (f : A → B) (g : B → C) (h : A → C) → ((x : A) → P x → g (f x) ≡ h x) → (xs : List A) → AllByRecursion P xs → map g (map f xs) ≡ map h xs
map_twice P f g h step [] each = refl
map_twice P f g h step (x ∷ xs) each = λ i. step x each.0 i ∷ map_twice P f g h step xs each.1 i

-- what passes among things with more to them, without that again
sift_step : {A B : Type 0} (b c : Bool) (x y : A) (xs ys : List A) (f : B → A) (z : B) (zs : List B) → b ≡ c → f z ≡ x → map f zs ≡ xs → map f (cond b (z ∷ zs) zs) ≡ cond c (x ∷ xs) xs
sift_step true true x y xs ys f z zs is first rest = λ i. first i ∷ rest i
sift_step false false x y xs ys f z zs is first rest = rest
sift_step true false x y xs ys f z zs is first rest = cc
sift_step false true x y xs ys f z zs is first rest = cc

pub sifted_same : {A B : Type 0} (P : A → Type 0) (f : A → B) (back : B → A) (p : B → Bool) (q : A → Bool) → ((x : A) → P x → back (f x) ≡ x) → ((x : A) → P x → p (f x) ≡ q x)
    → (xs : List A) → AllByRecursion P xs → map back (filter p (map f xs)) ≡ filter q xs
sifted_same P f back p q again alike [] each = refl
sifted_same P f back p q again alike (x ∷ xs) each =
    sift_step (p (f x)) (q x) x x (filter q xs) xs back (f x) (filter p (map f xs)) (alike x each.0) (again x each.0) (sifted_same P f back p q again alike xs each.1)

-- the elements from one on, one by one
elements_from : {A : Type 0} (xs : List A) (d : A) (k n : ℕ) → k + n ≤ length xs → map (λ i. get_or xs i d) (range_with_len k n) ≡ take n (drop k xs)
elements_from xs d k zero within = refl
elements_from xs d k (suc n) within =
    ap (λ l. get_or xs k d ∷ l) (elements_from xs d (k + 1) n (omega (arith, within)))
    ∙ ap (take (suc n)) (sym (drop_more xs k d (omega (arith, within))))

pub first_elements : {A : Type 0} (xs : List A) (d : A) (n : ℕ) → n ≤ length xs → map (λ i. get_or xs i d) (range_with_len 0 n) ≡ take n xs
first_elements xs d n within = elements_from xs d 0 n (omega (arith, within))
