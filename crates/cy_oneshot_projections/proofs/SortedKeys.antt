-- What sorts by keys leave.
use Rattle.std.proofs.Common.{◌≡◌, Bool, true, false, ◌&&◌, List, [], ◌∷◌, map, sym, ap, ◌∙◌}
use Rattle.std.specs.List.Sorted.{IsPermutation, IsSortedBy}
use Rattle.std.specs.Cmp.{IsTotalOrder}
use Rattle.std.specs.declared.cmp.Ordering.{Ordering}
use Rattle.std.specs.Ordering.{eq_by_cmp, is_eq, is_gt, is_lt}
use Rattle.std.proofs.lemmas.Bool.{and_parts, and_from}
use Rattle.std.proofs.lemmas.Cmp.{on_total, tied_itself}
use Rattle.std.proofs.lemmas.List.Sorted.{IsPermutation-map}
use Rattle.std.proofs.lemmas.Simd.{map-map}
use Rattle.cy_values.specs.declared.rows.Cell.{Cell}
use Rattle.cy_values.specs.Order.{row_cmp}
use Rattle.cy_oneshot_projections.specs.declared.order.Keyed as coded_keyed
use Rattle.cy_oneshot_meaning.specs.Order.{Keyed, in_order, keyed_order}
use Rattle.cy_oneshot_projections.specs.internal.Keys.{keyed_of}
use Rattle.cy_oneshot_meaning.proofs.BagLemmas.{identity}
use Rattle.cy_oneshot_meaning.proofs.Each.{each_map}
use Rattle.cy_oneshot_meaning.proofs.InOrder.{same_in_order}
use Rattle.cy_oneshot_meaning.proofs.KeyOrders.{keyed_total, tied_rows}
use Rattle.cy_oneshot_meaning.proofs.Permuted.{Permuted}
use Rattle.cy_oneshot_meaning.proofs.Sorting.{Ordered, ordered_from_sorted, permuted_from_sort, stays}

-- what stands in order by what a function gives, and what the function gives
ordered_map : {A B : Type 0} (R : B → B → Ordering) (f : A → B) (xs : List A) → Ordered (λ x y. R (f x) (f y)) xs → Ordered R (map f xs)
ordered_map R f [] up = tt
ordered_map R f (x ∷ xs) up = (each_map (λ y. is_gt (R (f x) (f y)) ≡ false) (λ y. is_gt (R (f x) y) ≡ false) f (λ y here. here) xs up.0, ordered_map R f xs up.1)

module _ (total : IsTotalOrder row_cmp) where
  itself : (x : List Cell) → eq_by_cmp row_cmp x x ≡ true
  itself x = ap is_eq (tied_itself total x)

  abbrev same_keyed : Keyed → Keyed → Bool
  same_keyed x y = eq_by_cmp row_cmp x.row y.row && eq_by_cmp row_cmp x.keys y.keys

  keyed_identity : (x y : Keyed) → same_keyed x y ≡ true → x ≡ y
  keyed_identity x y h =
      let parts = and_parts (eq_by_cmp row_cmp x.row y.row) (eq_by_cmp row_cmp x.keys y.keys) h in
      λ i. record { row = identity x.row y.row parts.0 i; keys = identity x.keys y.keys parts.1 i }

  -- rows by their keys, and then canonical
  pub keyed_sorted : (flags : List Bool) (xs ys : List coded_keyed.Keyed) → IsPermutation xs ys → IsSortedBy (λ x y. is_lt (keyed_order flags (keyed_of x) (keyed_of y))) ys
      → map (λ k. k.row) ys ≡ map (λ k. k.row) (in_order (keyed_order flags) (map keyed_of xs))
  keyed_sorted flags xs ys moved sorted =
      let order : Keyed → Keyed → Ordering = keyed_order flags in
      let up : Ordered order (map keyed_of ys) =
      ordered_map order keyed_of ys (ordered_from_sorted (λ x y. order (keyed_of x) (keyed_of y)) (on_total keyed_of (keyed_total total flags)) ys sorted) in
      let permuted : Permuted (map keyed_of xs) (map keyed_of ys) =
      permuted_from_sort same_keyed (λ x. and_from (eq_by_cmp row_cmp x.row x.row) (eq_by_cmp row_cmp x.keys x.keys) (itself x.row) (itself x.keys)) keyed_identity
      (map keyed_of xs) (map keyed_of ys) (IsPermutation-map keyed_of xs ys moved) in
      sym (map-map (λ (k : Keyed). k.row) keyed_of ys)
      ∙ ap (map (λ (k : Keyed). k.row)) (sym (stays order (keyed_total total flags) (map keyed_of ys) up))
      ∙ sym (same_in_order order (keyed_total total flags) (λ (k : Keyed). k.row) (tied_rows flags) permuted)
