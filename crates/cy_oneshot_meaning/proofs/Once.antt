-- Filters, and what stands once, keep lists that have the same elements in another order.
use Rattle.std.proofs.Common.{◌≡◌, suc, Bool, true, false, not, cond, List, [], ◌∷◌, filter, length, refl, sym, ap, subst, ◌∙◌}
use Rattle.std.specs.declared.cmp.Ordering.{Ordering}
use Rattle.std.specs.Ordering.{eq_by_cmp}
use Rattle.std.specs.Cmp.{IsTotalOrder, IsEquivalence}
use Rattle.std.proofs.lemmas.Cmp.{eq_by_cmp_equiv}
use Rattle.cy_values.proofs.Lists.{filters_swap}
use Rattle.cy_oneshot_meaning.specs.Order.{each_once}
use Rattle.cy_oneshot_meaning.proofs.Permuted.{Permuted, nothing, more, exchanged, and_then, permuted_itself}

pub same_length : {A : Type 0} {xs ys : List A} → Permuted xs ys → length xs ≡ length ys
same_length nothing = refl
same_length (more x p) = ap suc (same_length p)
same_length (exchanged x y xs) = refl
same_length (and_then p q) = same_length p ∙ same_length q

-- whichever stands first
pub tied_either_way : {A : Type 0} (R : A → A → Ordering) → IsTotalOrder R → (x y : A) → eq_by_cmp R x y ≡ eq_by_cmp R y x
tied_either_way R total x y = let e : IsEquivalence (eq_by_cmp R) = eq_by_cmp_equiv total in e.symm x y

kept_front : {A : Type 0} (b : Bool) (x : A) {xs ys : List A} → Permuted xs ys → Permuted (cond b (x ∷ xs) xs) (cond b (x ∷ ys) ys)
kept_front true x p = more x p
kept_front false x p = p

kept_two : {A : Type 0} (b c : Bool) (x y : A) (xs : List A)
    → Permuted (cond b (x ∷ cond c (y ∷ xs) xs) (cond c (y ∷ xs) xs)) (cond c (y ∷ cond b (x ∷ xs) xs) (cond b (x ∷ xs) xs))
kept_two true true x y xs = exchanged x y xs
kept_two true false x y xs = permuted_itself (x ∷ xs)
kept_two false true x y xs = permuted_itself (y ∷ xs)
kept_two false false x y xs = permuted_itself xs

pub permuted_filter : {A : Type 0} (p : A → Bool) {xs ys : List A} → Permuted xs ys → Permuted (filter p xs) (filter p ys)
permuted_filter p nothing = nothing
permuted_filter p (more x q) = kept_front (p x) x (permuted_filter p q)
permuted_filter p (exchanged x y xs) = kept_two (p x) (p y) x y (filter p xs)
permuted_filter p (and_then q r) = and_then (permuted_filter p q) (permuted_filter p r)

module _ {A : Type 0} (order : A → A → Ordering) (identity : (x y : A) → eq_by_cmp order x y ≡ true → x ≡ y)
    (symmetric : (x y : A) → eq_by_cmp order x y ≡ eq_by_cmp order y x) where
  once_exchanged : (x y : A) (xs : List A) → Permuted (each_once order (x ∷ y ∷ xs)) (each_once order (y ∷ x ∷ xs))
  once_exchanged x y xs =
      elim (eq_by_cmp order x y) as (λ b. eq_by_cmp order x y ≡ b → Permuted (each_once order (x ∷ y ∷ xs)) (each_once order (y ∷ x ∷ xs))) [
        | true ↦ λ h. subst (λ z. Permuted (each_once order (x ∷ z ∷ xs)) (each_once order (z ∷ x ∷ xs))) (identity x y h) (permuted_itself (each_once order (x ∷ x ∷ xs)))
        | false ↦ λ h.
            let others : List A = filter (λ z. not (eq_by_cmp order x z)) (filter (λ z. not (eq_by_cmp order y z)) (each_once order xs)) in
            let left : each_once order (x ∷ y ∷ xs) ≡ x ∷ y ∷ others =
            ap (λ b. x ∷ cond (not b) (y ∷ others) others) h in
            let right : each_once order (y ∷ x ∷ xs) ≡ y ∷ x ∷ others =
            ap (λ b. y ∷ cond (not b) (x ∷ filter (λ z. not (eq_by_cmp order y z)) (filter (λ z. not (eq_by_cmp order x z)) (each_once order xs)))
            (filter (λ z. not (eq_by_cmp order y z)) (filter (λ z. not (eq_by_cmp order x z)) (each_once order xs)))) (symmetric y x ∙ h)
            ∙ ap (λ l. y ∷ x ∷ l) (filters_swap (λ z. not (eq_by_cmp order y z)) (λ z. not (eq_by_cmp order x z)) (each_once order xs)) in
            subst (λ l. Permuted l (each_once order (y ∷ x ∷ xs))) (sym left) (subst (λ l. Permuted (x ∷ y ∷ others) l) (sym right) (exchanged x y others))
      ] refl

  pub permuted_once : {xs ys : List A} → Permuted xs ys → Permuted (each_once order xs) (each_once order ys)
  permuted_once nothing = nothing
  permuted_once (more x p) = more x (permuted_filter (λ z. not (eq_by_cmp order x z)) (permuted_once p))
  permuted_once (exchanged x y xs) = once_exchanged x y xs
  permuted_once (and_then p q) = and_then (permuted_once p) (permuted_once q)
