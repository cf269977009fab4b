use Rattle.std.proofs.Common.{◌∙◌}
use Rattle.cy_network_columns.proofs.ColumnCells.{swapped_alike}
use Rattle.cy_network_columns.proofs.column.drop_at.Goals as goal

pub returns : goal.returns
returns g c = λ d. c.swap_remove.ensures.items ∙ swapped_alike c.args.elements.now.items c.args.place c.swap_remove.result d c.requires
