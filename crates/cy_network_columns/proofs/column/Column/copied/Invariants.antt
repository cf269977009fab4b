use Rattle.std.proofs.Common.{◌≡◌, take}
use Rattle.cy_network_columns.proofs.column.Column.copied.Given as goal

-- the cells so far
abbrev pub invariant-loop-number : goal.invariant-loop-number
invariant-loop-number l = l.cells.items ≡ take l.number l.self
