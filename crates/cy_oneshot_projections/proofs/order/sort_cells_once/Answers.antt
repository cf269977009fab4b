use Rattle.std.proofs.Common.{ap, ◌∙◌}
use Rattle.cy_values.specs.Order.{cell_order}
use Rattle.cy_values.proofs.Orders.{cells_alike}
use Rattle.cy_oneshot_meaning.specs.Order.{in_order, each_once}
use Rattle.cy_oneshot_projections.proofs.SortedAlike.{same_orders, tied_cells}
use Rattle.cy_oneshot_projections.proofs.order.sort_cells_once.Goals as goal

pub sort_once-requires : goal.sort_once-requires
sort_once-requires c = tied_cells _ cells_alike

pub returns : goal.returns
returns c = c.sort_once.ensures ∙ ap (λ R. in_order R (each_once R c.args.cells.now.items)) (same_orders _ cell_order cells_alike)
