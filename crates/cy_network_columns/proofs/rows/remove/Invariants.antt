use Rattle.std.proofs.Common.{◌≡◌, ◌++◌, map, take, drop}
use Rattle.cy_network_columns.specs.internal.Columns.{removed}
use Rattle.cy_network_columns.proofs.rows.remove.Given as goal

-- the row went from the columns so far
abbrev pub invariant-loop-column : goal.invariant-loop-column
invariant-loop-column l = l.columns ≡ map (removed l.number l.count) (take l.column-index l.initial.columns) ++ drop l.column-index l.initial.columns
