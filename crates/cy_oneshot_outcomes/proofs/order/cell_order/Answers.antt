use Rattle.std.proofs.Common.{◌∙◌}
use Rattle.cy_values.proofs.Orders.{cells_alike}
use Rattle.cy_oneshot_outcomes.proofs.order.cell_order.Goals as goal

pub returns : goal.returns
returns c = c.cmp.ensures ∙ cells_alike c.args.left.now c.args.right.now
