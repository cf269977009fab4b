use Rattle.cy_network_columns.proofs.Keeping.{fill_none}
use Rattle.cy_network_columns.proofs.rows.fill.Goals as goal

pub loop-place-init : goal.loop-place-init
loop-place-init c = fill_none c.args.cells.now c.args.columns.now
