use Rattle.std.proofs.Common.{ap, ◌∙◌}
use Rattle.cy_values.specs.Order.{row_cmp}
use Rattle.cy_values.proofs.Orders.{rows_alike}
use Rattle.cy_oneshot_meaning.specs.Order.{in_order}
use Rattle.cy_oneshot_projections.proofs.SortedAlike.{same_orders, tied_rows}
use Rattle.cy_oneshot_projections.proofs.order.sort_rows.Goals as goal

pub sort_all-requires : goal.sort_all-requires
sort_all-requires c = tied_rows _ rows_alike

pub returns : goal.returns
returns c = c.sort_all.ensures ∙ ap (λ R. in_order R c.args.rows.now.items) (same_orders _ row_cmp rows_alike)
