-- Lists that are in order, and what sorts and dedup leave.
use Rattle.std.proofs.Common.{◌≡◌, ℕ, suc, ◌<◌, ◌≤◌, Bool, true, false, cond, not, List, [], ◌∷◌, filter, length, get_or, refl, sym, ap, ◌∙◌, arith}
use Rattle.std.specs.List.{AllByRecursion, dedup, dedup_from}
use Rattle.std.specs.List.Sorted.{IsPermutation, IsSorted}
use Rattle.std.specs.Cmp.{IsTotalOrder}
use Rattle.std.specs.declared.cmp.Ordering.{Ordering}
use Rattle.std.specs.declared.cmp.Ordering.TheVariants.{Less, Equal, Greater}
use Rattle.std.specs.Ordering.{eq_by_cmp, is_eq, is_gt, is_lt, ordering_reverse}
use Rattle.std.proofs.lemmas.Bool.{false≢true}
use Rattle.std.proofs.lemmas.Cmp.{alike_right}
use Rattle.std.proofs.lemmas.List.Sorted.{ranks_by, sorted_far, sum_by-IsPermutation}
use Rattle.cy_values.proofs.Lists.{each_filter}
use Rattle.cy_oneshot_meaning.specs.Order.{placed, in_order, each_once}
use Rattle.cy_oneshot_meaning.proofs.Each.{each_of_once}
use Rattle.cy_oneshot_meaning.proofs.Permuted.{Permuted, permuted_from_counts}

-- none comes before one that is before it
abbrev pub Ordered : {A : Type 0} → (A → A → Ordering) → List A → Type 0
Ordered R [] = Unit {0}
Ordered R (x ∷ xs) = AllByRecursion (λ y. is_gt (R x y) ≡ false) xs × Ordered R xs

-- what holds at each place holds of each
each_at : {A : Type 0} (P : A → Type 0) (xs : List A) → ((i : ℕ) (d : A) → i < length xs → P (get_or xs i d)) → AllByRecursion P xs
each_at P [] at = tt
each_at P (x ∷ xs) at = (at 0 x (omega arith), each_at P xs (λ i d less. at (suc i) d (omega arith)))

turned_less : (o : Ordering) → is_lt o ≡ false → is_gt (ordering_reverse o) ≡ false
turned_less Less h = h
turned_less Equal h = refl
turned_less Greater h = refl

module _ {A : Type 0} (R : A → A → Ordering) (total : IsTotalOrder R) where
  far : (xs : List A) → IsSorted R xs → (i j : ℕ) (d : A) → i ≤ j → j < length xs → is_gt (R (get_or xs i d) (get_or xs j d)) ≡ false
  far xs sorted i j d le less =
      ap is_gt (total.antisymm (get_or xs i d) (get_or xs j d))
      ∙ turned_less (R (get_or xs j d) (get_or xs i d)) (sorted_far (λ x y. is_lt (R x y)) (ranks_by total (λ (x : A). x)) xs sorted i j d le less)

  ordered_by : (xs : List A) → ((i j : ℕ) (d : A) → i ≤ j → j < length xs → is_gt (R (get_or xs i d) (get_or xs j d)) ≡ false) → Ordered R xs
  ordered_by [] at = tt
  ordered_by (x ∷ xs) at = (
    each_at (λ y. is_gt (R x y) ≡ false) xs (λ i d less. at 0 (suc i) d (omega arith) (omega arith)),
    ordered_by xs (λ i j d le less. at (suc i) (suc j) d (omega arith) (omega arith)),
  )

  -- what a sort leaves
  pub ordered_from_sorted : (xs : List A) → IsSorted R xs → Ordered R xs
  ordered_from_sorted xs sorted = ordered_by xs (far xs sorted)

  -- what is in order stays as it is
  pub stays : (xs : List A) → Ordered R xs → in_order R xs ≡ xs
  stays [] up = refl
  stays (x ∷ []) up = refl
  stays (x ∷ y ∷ ys) up =
      ap (placed R x) (stays (y ∷ ys) up.1) ∙ ap (λ b. cond b (y ∷ placed R x ys) (x ∷ y ∷ ys)) up.0.0

  ordered_filter : (p : A → Bool) (xs : List A) → Ordered R xs → Ordered R (filter p xs)
  ordered_filter p [] up = tt
  ordered_filter p (x ∷ xs) up =
      elim (p x) as (λ b. Ordered R (cond b (x ∷ filter p xs) (filter p xs))) [
        | true ↦ (each_filter (λ y. is_gt (R x y) ≡ false) p xs up.0, ordered_filter p xs up.1)
        | false ↦ ordered_filter p xs up.1
      ]

  pub ordered_once : (xs : List A) → Ordered R xs → Ordered R (each_once R xs)
  ordered_once [] up = tt
  ordered_once (x ∷ xs) up = (
    each_filter (λ y. is_gt (R x y) ≡ false) (λ y. not (eq_by_cmp R x y)) (each_once R xs) (each_of_once (λ y. is_gt (R x y) ≡ false) R xs up.0),
    ordered_filter (λ y. not (eq_by_cmp R x y)) (each_once R xs) (ordered_once xs up.1),
  )

  -- things that are all other than one
  pub none_dropped : (x : A) (ys : List A) → AllByRecursion (λ y. eq_by_cmp R x y ≡ false) ys → filter (λ y. not (eq_by_cmp R x y)) ys ≡ ys
  none_dropped x [] apart = refl
  none_dropped x (y ∷ ys) apart =
      ap (λ b. cond (not b) (y ∷ filter (λ z. not (eq_by_cmp R x z)) ys) (filter (λ z. not (eq_by_cmp R x z)) ys)) apart.0 ∙ ap (λ l. y ∷ l) (none_dropped x ys apart.1)

  pub dropped_twice : (x : A) (ys : List A) → filter (λ y. not (eq_by_cmp R x y)) (filter (λ y. not (eq_by_cmp R x y)) ys) ≡ filter (λ y. not (eq_by_cmp R x y)) ys
  dropped_twice x [] = refl
  dropped_twice x (y ∷ ys) =
      elim (eq_by_cmp R x y) as (λ b. eq_by_cmp R x y ≡ b
      → filter (λ z. not (eq_by_cmp R x z)) (cond (not b) (y ∷ filter (λ z. not (eq_by_cmp R x z)) ys) (filter (λ z. not (eq_by_cmp R x z)) ys))
      ≡ cond (not b) (y ∷ filter (λ z. not (eq_by_cmp R x z)) ys) (filter (λ z. not (eq_by_cmp R x z)) ys)) [
        | true ↦ λ h. dropped_twice x ys
        | false ↦ λ h.
            ap (λ b. cond (not b) (y ∷ filter (λ z. not (eq_by_cmp R x z)) (filter (λ z. not (eq_by_cmp R x z)) ys)) (filter (λ z. not (eq_by_cmp R x z)) (filter (λ z. not (eq_by_cmp R x z)) ys))) h
            ∙ ap (λ l. y ∷ l) (dropped_twice x ys)
      ] refl

  pub strictly : (o : Ordering) → is_gt o ≡ false → is_eq o ≡ false → o ≡ Less
  strictly Less g e = refl
  strictly Equal g e = absurd (false≢true (sym e))
  strictly Greater g e = absurd (false≢true (sym g))

  -- x is before y, and y isn't after z
  before : (x y z : A) → R x y ≡ Less → is_gt (R y z) ≡ false → R x z ≡ Less
  before x y z first second =
      elim (R y z) as (λ o. R y z ≡ o → is_gt o ≡ false → R x z ≡ Less) [
        | Less ↦ λ h g. total.trans x y z first h
        | Equal ↦ λ h g. sym (alike_right total y z x h) ∙ first
        | Greater ↦ λ h g. absurd (false≢true (sym g))
      ] refl second

  pub before_all : (x y : A) (zs : List A) → R x y ≡ Less → AllByRecursion (λ z. is_gt (R y z) ≡ false) zs → AllByRecursion (λ z. eq_by_cmp R x z ≡ false) zs
  before_all x y [] less up = tt
  before_all x y (z ∷ zs) less up = (ap is_eq (before x y z less up.0), before_all x y zs less up.1)

  module _ (identity : (x y : A) → eq_by_cmp R x y ≡ true → x ≡ y) where
    -- what comes first, and what stands once among those after it, where the next one is the same
    first_again : (x y : A) (ys : List A) → eq_by_cmp R x y ≡ true → each_once R (x ∷ y ∷ ys) ≡ each_once R (x ∷ ys)
    first_again x y ys same =
        ap (λ b. x ∷ cond (not b) (y ∷ filter (λ z. not (eq_by_cmp R x z)) (filter (λ z. not (eq_by_cmp R y z)) (each_once R ys)))
        (filter (λ z. not (eq_by_cmp R x z)) (filter (λ z. not (eq_by_cmp R y z)) (each_once R ys)))) same
        ∙ ap (λ w. x ∷ filter (λ z. not (eq_by_cmp R x z)) (filter (λ z. not (eq_by_cmp R w z)) (each_once R ys))) (sym (identity x y same))
        ∙ ap (λ l. x ∷ l) (dropped_twice x (each_once R ys))

    -- where the next one is another, which isn't before it
    first_alone : (x y : A) (ys : List A) → R x y ≡ Less → Ordered R (y ∷ ys) → each_once R (x ∷ y ∷ ys) ≡ x ∷ each_once R (y ∷ ys)
    first_alone x y ys less up =
        ap (λ l. x ∷ l) (none_dropped x (each_once R (y ∷ ys))
        (ap is_eq less, each_filter (λ z. eq_by_cmp R x z ≡ false) (λ z. not (eq_by_cmp R y z)) (each_once R ys) (each_of_once (λ z. eq_by_cmp R x z ≡ false) R ys (before_all x y ys less up.0))))

    -- what dedup leaves of a list in order
    module _ (E : A → A → Bool) (same : (x y : A) → E x y ≡ eq_by_cmp R x y) (symmetric : (x y : A) → eq_by_cmp R x y ≡ eq_by_cmp R y x) where
      dedup_once : (x : A) (ys : List A) → Ordered R (x ∷ ys) → dedup_from E x ys ≡ each_once R (x ∷ ys)
      dedup_once x [] up = refl
      dedup_once x (y ∷ ys) up =
          elim (eq_by_cmp R x y) as (λ b. eq_by_cmp R x y ≡ b → dedup_from E x (y ∷ ys) ≡ each_once R (x ∷ y ∷ ys)) [
            | true ↦ λ h.
                ap (λ b. cond b (dedup_from E x ys) (x ∷ dedup_from E y ys)) (same y x ∙ symmetric y x ∙ h)
                ∙ dedup_once x ys (up.0.1, up.1.1)
                ∙ sym (first_again x y ys h)
            | false ↦ λ h.
                ap (λ b. cond b (dedup_from E x ys) (x ∷ dedup_from E y ys)) (same y x ∙ symmetric y x ∙ h)
                ∙ ap (λ l. x ∷ l) (dedup_once y ys up.1)
                ∙ sym (first_alone x y ys (strictly (R x y) up.0.0 h) up.1)
          ] refl

      pub dedup_is_once : (xs : List A) → Ordered R xs → dedup E xs ≡ each_once R xs
      dedup_is_once [] up = refl
      dedup_is_once (x ∷ xs) up = dedup_once x xs up

-- what a sort only moves
pub permuted_from_sort : {A : Type 0} (same : A → A → Bool) (itself : (x : A) → same x x ≡ true) (identity : (x y : A) → same x y ≡ true → x ≡ y)
    (xs ys : List A) → IsPermutation xs ys → Permuted xs ys
permuted_from_sort same itself identity xs ys moved =
    permuted_from_counts same itself identity xs ys (λ x. sym (sum_by-IsPermutation (λ z. cond (same x z) 1 0) xs ys moved))
