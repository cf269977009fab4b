use Rattle.std.proofs.Common.{ap, ◌∙◌}
use Rattle.cy_values.specs.Order.{cell_order}
use Rattle.cy_values.proofs.Orders.{cells_alike}
use Rattle.cy_oneshot_meaning.specs.Order.{in_order}
use Rattle.cy_oneshot_projections.proofs.SortedAlike.{same_orders, tied_cells}
use Rattle.cy_oneshot_projections.proofs.order.sort_cells.Goals as goal

pub sort_all-requires : goal.sort_all-requires
sort_all-requires c = tied_cells _ cells_alike

pub returns : goal.returns
returns c = c.sort_all.ensures ∙ ap (λ R. in_order R c.args.cells.now.items) (same_orders _ cell_order cells_alike)
