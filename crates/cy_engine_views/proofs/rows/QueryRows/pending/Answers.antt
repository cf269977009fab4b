use Rattle.std.proofs.Common.{sym}
use Rattle.cy_engine_views.proofs.Served.{pending_difference}
use Rattle.cy_engine_views.proofs.rows.QueryRows.pending.Goals as goal

pub returns : goal.returns
returns c = λ before after prepared. pending_difference c.args.self.now before after prepared c.pending.result.now (sym c.pending.ensures)
