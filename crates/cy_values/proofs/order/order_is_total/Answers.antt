use Rattle.cy_values.proofs.order.order_is_total.Goals as goal

pub returns : goal.returns
returns g c = g.met.T.Ord.total
