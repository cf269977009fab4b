use Rattle.std.proofs.Common.{arith}
use Rattle.std.proofs.lemmas.Grind.{common_steps}
use Rattle.std.proofs.lemmas.List.Edits.{map_over_more}
use Rattle.cy_network_columns.specs.internal.Columns.{removed}
use Rattle.cy_network_columns.proofs.rows.remove.Goals as goal

pub loop-column-preserved : goal.loop-column-preserved
loop-column-preserved c = grind (arith, common_steps, map_over_more (removed c.args.number c.args.count))
