use Rattle.std.proofs.Common.{ap, sym, ◌∙◌}
use Rattle.std.specs.Cmp.{tied_itself}
use Rattle.cy_values.specs.Order.{row_cmp}
use Rattle.cy_values.proofs.Orders.{rows_alike, rows_total}
use Rattle.cy_values.proofs.Identity.{same_rows}
use Rattle.cy_values.proofs.order.row_order_laws.Goals as goal

pub returns-clause-total : goal.returns-clause-total
returns-clause-total c = rows_total c.order_is_total.ensures

pub returns-clause-ordered : goal.returns-clause-ordered
returns-clause-ordered c = rows_alike

pub returns-clause-identity : goal.returns-clause-identity
returns-clause-identity c = λ left right. (
  same_rows left right,
  λ same. ap (row_cmp left) (sym same) ∙ tied_itself (rows_total c.order_is_total.ensures) left,
)
