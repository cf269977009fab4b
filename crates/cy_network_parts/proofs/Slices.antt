-- Lists that are cut in two, and the things that one of their elements is.
use Rattle.std.proofs.Common.{◌≡◌, ℕ, suc, ◌+◌, List, [], ◌∷◌, ◌++◌, length, map, drop, get_or, refl, sym, ap, ◌∙◌, arith}
use Rattle.std.specs.List.{All, Any}
use Rattle.std.proofs.Math.ListN.{set}
use Rattle.std.proofs.lemmas.List.{get_or_append_left, length-append, length-map, map-append}
use Rattle.std.proofs.lemmas.List.Elements.{All-cons, All-head, All-nil, All-tail}

-- where the same list is cut in two ways, the last parts of which are equally long, both parts are the same
pub same_parts : {A : Type 0} (xs ys us vs : List A) → xs ++ ys ≡ us ++ vs → length ys ≡ length vs → (xs ≡ us) × (ys ≡ vs)
same_parts [] ys [] vs same long = (refl, same)
same_parts [] ys (u ∷ us) vs same long =
    let n = ap length same in let m = length-append us vs in absurd (omega (arith, n, m, long))
same_parts (x ∷ xs) ys [] vs same long =
    let n = ap length same in let m = length-append xs ys in absurd (omega (arith, n, m, long))
same_parts (x ∷ xs) ys (u ∷ us) vs same long =
    let rest = same_parts xs ys us vs (ap (drop 1) same) long in
    (ap (λ zs. get_or zs 0 x ∷ xs) same ∙ ap (λ zs. u ∷ zs) rest.0, rest.1)

-- what a function gives for two parts
pub same_mapped : {A B : Type 0} (f : A → B) (xs ys : List A) (us vs : List B) → map f (xs ++ ys) ≡ us ++ vs → length ys ≡ length vs → (map f xs ≡ us) × (map f ys ≡ vs)
same_mapped f xs ys us vs same long = same_parts (map f xs) (map f ys) us vs (sym (map-append f xs ys) ∙ same) (length-map ys f ∙ long)

-- something is among things, and so it is among more
pub any_first : {X : Type 0} (P : X → Type 0) (x : X) (xs : List X) → P x → Any P (x ∷ xs)
any_first P x xs holds = (0, x, omega arith, refl, holds)

pub any_later : {X : Type 0} (P : X → Type 0) (x : X) (xs : List X) → Any P xs → Any P (x ∷ xs)
any_later P x xs found = (suc found.0, found.1, omega (arith, found.2), found.3, found.4)

pub any_left : {X : Type 0} (P : X → Type 0) (xs ys : List X) → Any P xs → Any P (xs ++ ys)
any_left P xs ys found =
    (found.0, found.1, (let n = length-append xs ys in omega (arith, n, found.2)), get_or_append_left xs ys found.1 found.0 found.2 ∙ found.3, found.4)

pub any_right : {X : Type 0} (P : X → Type 0) (xs ys : List X) → Any P ys → Any P (xs ++ ys)
any_right P [] ys found = found
any_right P (x ∷ xs) ys found = any_later P x (xs ++ ys) (any_right P xs ys found)

-- what holds of all things holds of those of each part
pub all_left : {X : Type 0} (P : X → Type 0) (xs ys : List X) → All P (xs ++ ys) → All P xs
all_left P [] ys all = All-nil P
all_left P (x ∷ xs) ys all = All-cons P x xs (All-head P x (xs ++ ys) all) (all_left P xs ys (All-tail P x (xs ++ ys) all))

pub all_right : {X : Type 0} (P : X → Type 0) (xs ys : List X) → All P (xs ++ ys) → All P ys
all_right P [] ys all = all
all_right P (x ∷ xs) ys all = all_right P xs ys (All-tail P x (xs ++ ys) all)

-- a list of one thing, of two and of three
pub one_only : {A : Type 0} (d : A) (xs : List A) → length xs ≡ 1 → xs ≡ get_or xs 0 d ∷ []
one_only d [] long = absurd (omega (arith, long))
one_only d (x ∷ []) long = refl
one_only d (x ∷ y ∷ xs) long = absurd (omega (arith, long))

-- one thing in the place of another one
pub set_one : {A : Type 0} (y : A) (xs : List A) → length xs ≡ 1 → set xs 0 y ≡ y ∷ []
set_one y [] long = absurd (omega (arith, long))
set_one y (x ∷ []) long = refl
set_one y (x ∷ z ∷ xs) long = absurd (omega (arith, long))

-- what stands at a place of two lists that are the same
pub same_at : {A : Type 0} (d : A) (xs ys : List A) (i : ℕ) → xs ≡ ys → get_or xs i d ≡ get_or ys i d
same_at d xs ys i same = ap (λ zs. get_or zs i d) same

-- a list of two that is cut after the first one
pub one_long_back : {A : Type 0} (own ys : List A) → length own ≡ 2 → length ys + 1 ≡ length own → length ys ≡ 1
one_long_back own ys long back = omega (arith, long, back)

pub one_long_front : {A : Type 0} (own xs ys : List A) → own ≡ xs ++ ys → length own ≡ 2 → length ys + 1 ≡ length own → length xs ≡ 1
one_long_front own xs ys is long back = let all = ap length is ∙ length-append xs ys in omega (arith, long, back, all)

pub two_parts : {A : Type 0} (d e : A) (own xs ys : List A) → own ≡ xs ++ ys → length own ≡ 2 → length ys + 1 ≡ length own → own ≡ get_or xs 0 d ∷ get_or ys 0 e ∷ []
two_parts d e own xs ys is long back =
    is ∙ ap (λ zs. zs ++ ys) (one_only d xs (one_long_front own xs ys is long back)) ∙ ap (λ zs. get_or xs 0 d ∷ zs) (one_only e ys (one_long_back own ys long back))

-- a list that is cut after the first one
pub front_long : {A : Type 0} (own xs ys : List A) → own ≡ xs ++ ys → length ys + 1 ≡ length own → length xs ≡ 1
front_long own xs ys is back = let all = ap length is ∙ length-append xs ys in omega (arith, back, all)

-- a list of three that is cut after the first one and after the second one
pub rest_long : {A : Type 0} (own rest zs : List A) → length own ≡ 3 → length rest + 1 ≡ length own → length zs + 1 ≡ length rest → length zs ≡ 1
rest_long own rest zs long back back_two = omega (arith, long, back, back_two)

pub three_parts : {A : Type 0} (d e f : A) (own xs rest ys zs : List A) → own ≡ xs ++ rest → rest ≡ ys ++ zs → length own ≡ 3 → length rest + 1 ≡ length own → length zs + 1 ≡ length rest
    → own ≡ get_or xs 0 d ∷ get_or ys 0 e ∷ get_or zs 0 f ∷ []
three_parts d e f own xs rest ys zs is is_two long back back_two =
    is ∙ ap (λ ws. ws ++ rest) (one_only d xs (front_long own xs rest is back)) ∙ ap (λ ws. get_or xs 0 d ∷ ws) is_two
    ∙ ap (λ ws. get_or xs 0 d ∷ (ws ++ zs)) (one_only e ys (front_long rest ys zs is_two back_two)) ∙ ap (λ ws. get_or xs 0 d ∷ get_or ys 0 e ∷ ws) (one_only f zs (rest_long own rest zs long back back_two))
