use Rattle.std.proofs.Common.{◌≡◌, take}
use Rattle.cy_network_columns.specs.internal.Columns.{row_in}
use Rattle.cy_network_columns.proofs.rows.copy_cells.Given as goal

-- the cells in the columns so far
abbrev pub invariant-loop-column : goal.invariant-loop-column
invariant-loop-column l = l.cells.items ≡ row_in (take l.column-index l.columns) l.number
