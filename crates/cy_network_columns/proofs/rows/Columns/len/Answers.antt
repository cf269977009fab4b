use Rattle.std.proofs.Common.{sym}
use Rattle.cy_network_columns.proofs.Keeping.{rows_long}
use Rattle.cy_network_columns.proofs.rows.Columns.len.Goals as goal

pub returns : goal.returns
returns c = rw (← c.self.view_is) (sym (rows_long c.self.inside.columns.items c.self.inside.count))
