use Rattle.std.proofs.Common.{◌≤◌, List, ℕ, arith}
use Rattle.std.specs.Ordering.{eq_by_cmp}
use Rattle.std.proofs.lemmas.List.Sums.{count_by-le-length}
use Rattle.std.proofs.lemmas.Result.{IfOk-weaker}
use Rattle.cy_values.specs.Bag.{IsBagOf, weight_of}
use Rattle.cy_values.specs.Order.{row_cmp}
use Rattle.cy_values.specs.declared.rows.Cell.{Cell}
use Rattle.cy_tests_layers.proofs.feeds.bag.Goals as goal

-- no row counts more often than there are rows
pub returns-clause-few : goal.returns-clause-few
returns-clause-few c =
    IfOk-weaker c.counted_in_order.result (λ pairs. IsBagOf c.loop-number.rows.items pairs.items) (λ pairs. (row : List Cell) → weight_of row pairs.items ≤ 8)
    (λ pairs bag row. omega (arith, bag row, count_by-le-length (eq_by_cmp row_cmp row) c.loop-number.rows.items))
    c.counted_in_order.ensures.bag
