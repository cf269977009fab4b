-- What sorts of cells and rows leave.
use Rattle.std.proofs.Common.{◌≡◌, Bool, true, List, sym, ap, ◌∙◌}
use Rattle.std.specs.List.{dedup}
use Rattle.std.specs.List.Sorted.{IsPermutation, IsSorted}
use Rattle.std.specs.Cmp.{IsTotalOrder}
use Rattle.std.specs.declared.cmp.Ordering.{Ordering}
use Rattle.std.specs.declared.cmp.Ordering.TheVariants.{Equal}
use Rattle.std.specs.Ordering.{eq_by_cmp, is_eq}
use Rattle.std.proofs.lemmas.Cmp.{tied_itself}
use Rattle.std.proofs.lemmas.List.{map-id}
use Rattle.cy_oneshot_meaning.specs.Order.{in_order, each_once}
use Rattle.cy_oneshot_meaning.proofs.InOrder.{same_in_order}
use Rattle.cy_oneshot_meaning.proofs.Once.{permuted_once, tied_either_way}
use Rattle.cy_oneshot_meaning.proofs.Permuted.{Permuted}
use Rattle.cy_oneshot_meaning.proofs.Sorting.{Ordered, ordered_from_sorted, ordered_once, stays, dedup_is_once, permuted_from_sort}

module _ {A : Type 0} (R : A → A → Ordering) (total : IsTotalOrder R) (identity : (x y : A) → eq_by_cmp R x y ≡ true → x ≡ y) where
  tied : (x y : A) → R x y ≡ Equal → x ≡ y
  tied x y h = identity x y (ap is_eq h)

  same_ordered : {xs ys : List A} → Permuted xs ys → in_order R xs ≡ in_order R ys
  same_ordered {xs} {ys} p = sym (map-id (in_order R xs)) ∙ same_in_order R total (λ (x : A). x) tied p ∙ map-id (in_order R ys)

  -- a sort by the order
  pub sorted_is : (xs ys : List A) → IsPermutation xs ys → IsSorted R ys → ys ≡ in_order R xs
  sorted_is xs ys moved sorted =
      sym (stays R total ys (ordered_from_sorted R total ys sorted))
      ∙ sym (same_ordered (permuted_from_sort (eq_by_cmp R) (λ x. ap is_eq (tied_itself total x)) identity xs ys moved))

  -- a sort, and then dedup
  pub deduped_is : (xs ys : List A) (E : A → A → Bool) → ((x y : A) → E x y ≡ eq_by_cmp R x y) → IsPermutation xs ys → IsSorted R ys
      → dedup E ys ≡ in_order R (each_once R xs)
  deduped_is xs ys E same moved sorted =
      let up : Ordered R ys = ordered_from_sorted R total ys sorted in
      let p : Permuted xs ys = permuted_from_sort (eq_by_cmp R) (λ x. ap is_eq (tied_itself total x)) identity xs ys moved in
      dedup_is_once R total identity E same (tied_either_way R total) ys up
      ∙ sym (stays R total (each_once R ys) (ordered_once R total ys up))
      ∙ sym (same_ordered (permuted_once R identity (tied_either_way R total) p))
