use Rattle.std.proofs.Common.{◌∙◌}
use Rattle.cy_values.proofs.Orders.{rows_alike}
use Rattle.cy_values.proofs.order.row_order.Goals as goal

pub returns : goal.returns
returns c = c.cmp.ensures ∙ rows_alike c.args.left.now c.args.right.now
