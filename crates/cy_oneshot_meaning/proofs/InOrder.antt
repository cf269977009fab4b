-- Putting things in order gives, from the same things in another order, the same but for ties.
use Rattle.std.proofs.Common.{◌≡◌, true, false, cond, List, [], ◌∷◌, map, refl, sym, ap, subst, ◌∙◌}
use Rattle.std.specs.Cmp.{IsTotalOrder}
use Rattle.std.specs.declared.cmp.Ordering.{Ordering}
use Rattle.std.specs.declared.cmp.Ordering.TheVariants.{Less, Equal, Greater}
use Rattle.std.specs.Ordering.{is_gt, ordering_reverse}
use Rattle.std.proofs.lemmas.Bool.{false≢true}
use Rattle.std.proofs.lemmas.Cmp.{upto, tied_itself, tied_back, alike_right}
use Rattle.cy_oneshot_meaning.specs.Order.{placed, in_order}
use Rattle.cy_oneshot_meaning.proofs.Permuted.{Permuted, nothing, more, exchanged, and_then}

-- tied, place by place
abbrev pub AllTied : {A : Type 0} → (A → A → Ordering) → List A → List A → Type 0
AllTied R [] [] = Unit {0}
AllTied R (x ∷ xs) (y ∷ ys) = (R x y ≡ Equal) × AllTied R xs ys
AllTied R _ _ = ⊥

module _ {A : Type 0} (R : A → A → Ordering) (total : IsTotalOrder R) where
  all_itself : (xs : List A) → AllTied R xs xs
  all_itself [] = tt
  all_itself (x ∷ xs) = (tied_itself total x, all_itself xs)

  all_and_then : (xs ys zs : List A) → AllTied R xs ys → AllTied R ys zs → AllTied R xs zs
  all_and_then [] [] [] p q = tt
  all_and_then (x ∷ xs) (y ∷ ys) (z ∷ zs) p q = (total.congr x y z p.0 ∙ q.0, all_and_then xs ys zs p.1 q.1)
  all_and_then [] [] (z ∷ zs) p q = absurd q
  all_and_then [] (y ∷ ys) zs p q = absurd p
  all_and_then (x ∷ xs) [] zs p q = absurd p
  all_and_then (x ∷ xs) (y ∷ ys) [] p q = absurd q

  all_alike : (xs ys us vs : List A) → xs ≡ us → ys ≡ vs → AllTied R us vs → AllTied R xs ys
  all_alike xs ys us vs left right t = subst (λ l. AllTied R l ys) (sym left) (subst (λ l. AllTied R us l) (sym right) t)

  placed_past : (x z : A) (zs : List A) → is_gt (R x z) ≡ true → placed R x (z ∷ zs) ≡ z ∷ placed R x zs
  placed_past x z zs h = ap (λ b. cond b (z ∷ placed R x zs) (x ∷ z ∷ zs)) h

  placed_here : (x z : A) (zs : List A) → is_gt (R x z) ≡ false → placed R x (z ∷ zs) ≡ x ∷ z ∷ zs
  placed_here x z zs h = ap (λ b. cond b (z ∷ placed R x zs) (x ∷ z ∷ zs)) h

  placed_tied : (x : A) (ys zs : List A) → AllTied R ys zs → AllTied R (placed R x ys) (placed R x zs)
  placed_tied x [] [] t = (tied_itself total x, tt)
  placed_tied x (y ∷ ys) (z ∷ zs) t =
      let alike : is_gt (R x y) ≡ is_gt (R x z) = ap is_gt (alike_right total y z x t.0) in
      subst (λ b. AllTied R (cond b (y ∷ placed R x ys) (x ∷ y ∷ ys)) (placed R x (z ∷ zs))) (sym alike)
      (elim (is_gt (R x z)) as (λ b. AllTied R (cond b (y ∷ placed R x ys) (x ∷ y ∷ ys)) (cond b (z ∷ placed R x zs) (x ∷ z ∷ zs))) [
        | true ↦ (t.0, placed_tied x ys zs t.1)
        | false ↦ (tied_itself total x, t)
      ])
  placed_tied x [] (z ∷ zs) t = absurd t
  placed_tied x (y ∷ ys) [] t = absurd t

  -- two at the front
  fronts : (x y : A) (zs : List A)
      → AllTied R (cond (is_gt (R x y)) (y ∷ x ∷ zs) (x ∷ y ∷ zs)) (cond (is_gt (R y x)) (x ∷ y ∷ zs) (y ∷ x ∷ zs))
  fronts x y zs =
      subst (λ o. AllTied R (cond (is_gt (R x y)) (y ∷ x ∷ zs) (x ∷ y ∷ zs)) (cond (is_gt o) (x ∷ y ∷ zs) (y ∷ x ∷ zs))) (sym (total.antisymm y x))
      (elim (R x y) as (λ o. R x y ≡ o → AllTied R (cond (is_gt o) (y ∷ x ∷ zs) (x ∷ y ∷ zs)) (cond (is_gt (ordering_reverse o)) (x ∷ y ∷ zs) (y ∷ x ∷ zs))) [
        | Less ↦ λ h. all_itself (x ∷ y ∷ zs)
        | Equal ↦ λ h. (h, (tied_back total x y h, all_itself zs))
        | Greater ↦ λ h. all_itself (y ∷ x ∷ zs)
      ] refl)

  -- what comes after another comes after what that one comes after, or is tied with
  comes_after : (x y z : A) → is_gt (R y z) ≡ true → is_gt (R x z) ≡ false → is_gt (R y x) ≡ true
  comes_after x y z after not_after =
      elim (is_gt (R y x)) as (λ b. is_gt (R y x) ≡ b → b ≡ true) [
        | true ↦ λ h. refl
        | false ↦ λ h. absurd (false≢true (sym (upto total y x z h not_after) ∙ after))
      ] refl

  placed_exchanged : (x y : A) (zs : List A) → AllTied R (placed R x (placed R y zs)) (placed R y (placed R x zs))
  placed_exchanged x y [] = fronts x y []
  placed_exchanged x y (z ∷ zs) =
      elim (is_gt (R x z)) as (λ b. is_gt (R x z) ≡ b → AllTied R (placed R x (placed R y (z ∷ zs))) (placed R y (placed R x (z ∷ zs)))) [
        | true ↦ λ h. elim (is_gt (R y z)) as (λ b. is_gt (R y z) ≡ b → AllTied R (placed R x (placed R y (z ∷ zs))) (placed R y (placed R x (z ∷ zs)))) [
          | true ↦ λ k. all_alike _ _ (z ∷ placed R x (placed R y zs)) (z ∷ placed R y (placed R x zs))
              (ap (placed R x) (placed_past y z zs k) ∙ placed_past x z (placed R y zs) h)
              (ap (placed R y) (placed_past x z zs h) ∙ placed_past y z (placed R x zs) k)
              (tied_itself total z, placed_exchanged x y zs)
          | false ↦ λ k. all_alike _ _ (y ∷ z ∷ placed R x zs) (y ∷ z ∷ placed R x zs)
              (ap (placed R x) (placed_here y z zs k) ∙ placed_past x y (z ∷ zs) (comes_after y x z h k) ∙ ap (λ l. y ∷ l) (placed_past x z zs h))
              (ap (placed R y) (placed_past x z zs h) ∙ placed_here y z (placed R x zs) k)
              (all_itself (y ∷ z ∷ placed R x zs))
        ] refl
        | false ↦ λ h. elim (is_gt (R y z)) as (λ b. is_gt (R y z) ≡ b → AllTied R (placed R x (placed R y (z ∷ zs))) (placed R y (placed R x (z ∷ zs)))) [
          | true ↦ λ k. all_alike _ _ (x ∷ z ∷ placed R y zs) (x ∷ z ∷ placed R y zs)
              (ap (placed R x) (placed_past y z zs k) ∙ placed_here x z (placed R y zs) h)
              (ap (placed R y) (placed_here x z zs h) ∙ placed_past y x (z ∷ zs) (comes_after x y z k h) ∙ ap (λ l. x ∷ l) (placed_past y z zs k))
              (all_itself (x ∷ z ∷ placed R y zs))
          | false ↦ λ k. all_alike _ _ (cond (is_gt (R x y)) (y ∷ x ∷ z ∷ zs) (x ∷ y ∷ z ∷ zs)) (cond (is_gt (R y x)) (x ∷ y ∷ z ∷ zs) (y ∷ x ∷ z ∷ zs))
              (ap (placed R x) (placed_here y z zs k) ∙ ap (λ l. cond (is_gt (R x y)) (y ∷ l) (x ∷ y ∷ z ∷ zs)) (placed_here x z zs h))
              (ap (placed R y) (placed_here x z zs h) ∙ ap (λ l. cond (is_gt (R y x)) (x ∷ l) (y ∷ x ∷ z ∷ zs)) (placed_here y z zs k))
              (fronts x y (z ∷ zs))
        ] refl
      ] refl

  pub in_order_tied : {xs ys : List A} → Permuted xs ys → AllTied R (in_order R xs) (in_order R ys)
  in_order_tied nothing = tt
  in_order_tied (more x {xs} {ys} p) = placed_tied x (in_order R xs) (in_order R ys) (in_order_tied p)
  in_order_tied (exchanged x y xs) = placed_exchanged x y (in_order R xs)
  in_order_tied (and_then {xs} {ys} {zs} p q) = all_and_then (in_order R xs) (in_order R ys) (in_order R zs) (in_order_tied p) (in_order_tied q)

  -- what is alike of tied things is alike of all of them in order
  images : {B : Type 0} (f : A → B) → ((x y : A) → R x y ≡ Equal → f x ≡ f y) → (xs ys : List A) → AllTied R xs ys → map f xs ≡ map f ys
  images f alike [] [] t = refl
  images f alike (x ∷ xs) (y ∷ ys) t = ap (λ h. h ∷ map f xs) (alike x y t.0) ∙ ap (λ l. f y ∷ l) (images f alike xs ys t.1)
  images f alike [] (y ∷ ys) t = absurd t
  images f alike (x ∷ xs) [] t = absurd t

  pub same_in_order : {B : Type 0} (f : A → B) → ((x y : A) → R x y ≡ Equal → f x ≡ f y) → {xs ys : List A} → Permuted xs ys
      → map f (in_order R xs) ≡ map f (in_order R ys)
  same_in_order f alike {xs} {ys} p = images f alike (in_order R xs) (in_order R ys) (in_order_tied p)
