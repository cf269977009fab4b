-- What is made of bags, or passes among them, is a bag.
use Rattle.std.proofs.Common.{Bool, cond, List, filter, map, sym, ap, ◌∙◌}
use Rattle.std.specs.Cmp.{IsTotalOrder}
use Rattle.std.specs.Ordering.{eq_by_cmp}
use Rattle.cy_oneshot_meaning.proofs.BagLemmas.{permuted_bag}
use Rattle.cy_oneshot_meaning.proofs.Permuted.{permuted_map, same_sum}
use Rattle.cy_planner_algebra.proofs.Counts.{count_passing}
use Rattle.cy_values.specs.Bag.{IsSameBag}
use Rattle.cy_values.specs.Order.{row_cmp}
use Rattle.cy_values.specs.declared.rows.Cell.{Cell}

-- what passes among the rows of a bag is a bag
pub sift_bag : (p : List Cell → Bool) (xs ys : List (List Cell)) → IsSameBag xs ys → IsSameBag (filter p xs) (filter p ys)
sift_bag p xs ys same = λ row. count_passing p row xs ∙ ap (λ n. cond (p row) n 0) (same row) ∙ sym (count_passing p row ys)

-- what is made of each row of a bag, one by one, is a bag too
pub map_bag : IsTotalOrder row_cmp → (f : List Cell → List Cell) (xs ys : List (List Cell)) → IsSameBag xs ys → IsSameBag (map f xs) (map f ys)
map_bag total f xs ys same = λ row. same_sum (λ other. cond (eq_by_cmp row_cmp row other) 1 0) (permuted_map f (permuted_bag total xs ys same))
