use Rattle.std.proofs.Common.{◌≡◌, ◌++◌, map, take, drop}
use Rattle.cy_network_columns.proofs.rows.trim.Given as goal

-- the columns so far are trimmed
abbrev pub invariant-loop-column : goal.invariant-loop-column
invariant-loop-column l = l.columns ≡ map (take l.count) (take l.column-index l.initial.columns) ++ drop l.column-index l.initial.columns
