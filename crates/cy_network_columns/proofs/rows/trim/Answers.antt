use Rattle.std.proofs.Common.{arith, take, Option}
use Rattle.cy_values.specs.declared.rows.Cell.{Cell}
use Rattle.std.proofs.lemmas.Grind.{common_steps}
use Rattle.std.proofs.lemmas.List.Edits.{map_over_more}
use Rattle.cy_network_columns.proofs.rows.trim.Goals as goal

pub loop-column-preserved : goal.loop-column-preserved
loop-column-preserved c = grind (arith, common_steps, map_over_more (take {A = Option Cell} c.args.count))
