-- What holds of each element of lists that are made of others.
use Rattle.std.proofs.Common.{◌≡◌, ℕ, zero, suc, Bool, true, false, cond, not, List, [], ◌∷◌, ◌++◌, map, filter, take, drop, refl}
use Rattle.std.specs.Prelude.{flat_map, Result, Ok, Err, IfOk}
use Rattle.std.specs.List.{AllByRecursion}
use Rattle.std.specs.declared.cmp.Ordering.{Ordering}
use Rattle.std.specs.Ordering.{eq_by_cmp, is_gt}
use Rattle.cy_values.proofs.Lists.{each_append, each_filter, each_then}
use Rattle.cy_expr.specs.declared.faults.EvalFault.{EvalFault}
use Rattle.cy_expr.specs.Faults.{on_one}
use Rattle.cy_oneshot_meaning.specs.Order.{placed, in_order, each_once}
use Rattle.cy_oneshot_patterns.specs.Outcomes.{together, joined, gathered}

pub each_map : {A B : Type 0} (P : A → Type 0) (Q : B → Type 0) (f : A → B) → ((x : A) → P x → Q (f x)) → (xs : List A) → AllByRecursion P xs → AllByRecursion Q (map f xs)
each_map P Q f step [] each = tt
each_map P Q f step (x ∷ xs) each = (step x each.0, each_map P Q f step xs each.1)

-- of each, where it holds of what a function gives for it
pub each_before : {A B : Type 0} (P : B → Type 0) (f : A → B) (xs : List A) → AllByRecursion P (map f xs) → AllByRecursion (λ x. P (f x)) xs
each_before P f [] each = tt
each_before P f (x ∷ xs) each = (each.0, each_before P f xs each.1)

-- of each that a function gives, whatever it is given
pub each_made : {A B : Type 0} (Q : B → Type 0) (f : A → B) → ((x : A) → Q (f x)) → (xs : List A) → AllByRecursion Q (map f xs)
each_made Q f step [] = tt
each_made Q f step (x ∷ xs) = (step x, each_made Q f step xs)

pub each_flat_map : {A B : Type 0} (P : A → Type 0) (Q : B → Type 0) (f : A → List B) → ((x : A) → P x → AllByRecursion Q (f x)) → (xs : List A) → AllByRecursion P xs
    → AllByRecursion Q (flat_map f xs)
each_flat_map P Q f step [] each = tt
each_flat_map P Q f step (x ∷ xs) each = each_append Q (f x) (flat_map f xs) (step x each.0) (each_flat_map P Q f step xs each.1)

pub each_flat_made : {A B : Type 0} (Q : B → Type 0) (f : A → List B) → ((x : A) → AllByRecursion Q (f x)) → (xs : List A) → AllByRecursion Q (flat_map f xs)
each_flat_made Q f step [] = tt
each_flat_made Q f step (x ∷ xs) = each_append Q (f x) (flat_map f xs) (step x) (each_flat_made Q f step xs)

pub each_take : {A : Type 0} (P : A → Type 0) (n : ℕ) (xs : List A) → AllByRecursion P xs → AllByRecursion P (take n xs)
each_take P zero xs each = tt
each_take P (suc n) [] each = tt
each_take P (suc n) (x ∷ xs) each = (each.0, each_take P n xs each.1)

pub each_drop : {A : Type 0} (P : A → Type 0) (n : ℕ) (xs : List A) → AllByRecursion P xs → AllByRecursion P (drop n xs)
each_drop P zero xs each = each
each_drop P (suc n) [] each = tt
each_drop P (suc n) (x ∷ xs) each = each_drop P n xs each.1

each_placed : {A : Type 0} (P : A → Type 0) (R : A → A → Ordering) (x : A) (ys : List A) → P x → AllByRecursion P ys → AllByRecursion P (placed R x ys)
each_placed P R x [] here each = (here, tt)
each_placed P R x (y ∷ ys) here each =
    elim (is_gt (R x y)) as (λ b. AllByRecursion P (cond b (y ∷ placed R x ys) (x ∷ y ∷ ys))) [
      | true ↦ (each.0, each_placed P R x ys here each.1)
      | false ↦ (here, each)
    ]

pub each_in_order : {A : Type 0} (P : A → Type 0) (R : A → A → Ordering) (xs : List A) → AllByRecursion P xs → AllByRecursion P (in_order R xs)
each_in_order P R [] each = tt
each_in_order P R (x ∷ xs) each = each_placed P R x (in_order R xs) each.0 (each_in_order P R xs each.1)

pub each_of_once : {A : Type 0} (P : A → Type 0) (R : A → A → Ordering) (xs : List A) → AllByRecursion P xs → AllByRecursion P (each_once R xs)
each_of_once P R [] each = tt
each_of_once P R (x ∷ xs) each = (each.0, each_filter P (λ y. not (eq_by_cmp R x y)) (each_once R xs) (each_of_once P R xs each.1))

pub each_passing : {A : Type 0} (P : A → Type 0) (p : A → Bool) (xs : List A) → AllByRecursion P xs → AllByRecursion (λ x. P x × (p x ≡ true)) (filter p xs)
each_passing P p [] each = tt
each_passing P p (x ∷ xs) each =
    elim (p x) as (λ b. p x ≡ b → AllByRecursion (λ y. P y × (p y ≡ true)) (cond b (x ∷ filter p xs) (filter p xs))) [
      | true ↦ λ h. ((each.0, h), each_passing P p xs each.1)
      | false ↦ λ h. each_passing P p xs each.1
    ] refl

pub each_any : {A : Type 0} (xs : List A) → AllByRecursion (λ x. Unit {0}) xs
each_any [] = tt
each_any (x ∷ xs) = (tt, each_any xs)

pub each_of_filter : {A : Type 0} (P : A → Type 0) (p : A → Bool) → ((x : A) → p x ≡ true → P x) → (xs : List A) → AllByRecursion P (filter p xs)
each_of_filter P p step xs = each_then (λ x. Unit {0} × (p x ≡ true)) P (λ x h. step x h.1) (filter p xs) (each_passing (λ x. Unit {0}) p xs (each_any xs))

-- ---- outcomes

together_each : {A : Type 0} (P : A → Type 0) (o q : Result (List A) EvalFault) → IfOk o (AllByRecursion P) → IfOk q (AllByRecursion P) → IfOk (together o q) (AllByRecursion P)
together_each P (Ok xs) (Ok ys) left right = each_append P xs ys left right
together_each P (Ok xs) (Err g) left right = tt
together_each P (Err f) (Ok ys) left right = tt
together_each P (Err f) (Err g) left right = tt

pub each_joined : {A : Type 0} (P : A → Type 0) (os : List (Result (List A) EvalFault)) → AllByRecursion (λ o. IfOk o (AllByRecursion P)) os → IfOk (joined os) (AllByRecursion P)
each_joined P [] each = tt
each_joined P (o ∷ os) each = together_each P o (joined os) each.0 (each_joined P os each.1)

single_each : {A : Type 0} (P : A → Type 0) (o : Result A EvalFault) → IfOk o P → IfOk (on_one (λ x. Ok (x ∷ [])) o) (AllByRecursion P)
single_each P (Ok x) here = (here, tt)
single_each P (Err f) here = tt

pub each_gathered : {A : Type 0} (P : A → Type 0) (os : List (Result A EvalFault)) → AllByRecursion (λ o. IfOk o P) os → IfOk (gathered os) (AllByRecursion P)
each_gathered P os each =
    each_joined P (map (on_one (λ x. Ok (x ∷ []))) os) (each_map (λ o. IfOk o P) (λ o. IfOk o (AllByRecursion P)) (on_one (λ x. Ok (x ∷ []))) (single_each P) os each)

-- what is done with an outcome that has a value
pub if_ok_then : {A B : Type 0} (P : A → Type 0) (Q : B → Type 0) (f : A → Result B EvalFault) → ((x : A) → P x → IfOk (f x) Q) → (o : Result A EvalFault) → IfOk o P → IfOk (on_one f o) Q
if_ok_then P Q f step (Ok x) here = step x here
if_ok_then P Q f step (Err fault) here = tt

pub if_ok_any : {A B : Type 0} (Q : B → Type 0) (f : A → Result B EvalFault) → ((x : A) → IfOk (f x) Q) → (o : Result A EvalFault) → IfOk (on_one f o) Q
if_ok_any Q f step (Ok x) = step x
if_ok_any Q f step (Err fault) = tt
