use Rattle.std.proofs.Common.{◌≡◌, None, replicate}
use Rattle.cy_network_columns.proofs.column.Column.missing.Given as goal

-- no cell so far
abbrev pub invariant-loop-made : goal.invariant-loop-made
invariant-loop-made l = l.cells.items ≡ replicate l.made None
