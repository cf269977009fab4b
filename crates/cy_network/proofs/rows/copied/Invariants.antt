use Rattle.std.proofs.Common.{◌≡◌, ◌++◌}
use Rattle.cy_network.proofs.rows.copied.Given as goal

-- the copies and what is left make up the entries
abbrev pub invariant-loop-row : goal.invariant-loop-row
invariant-loop-row l = l.pairs.items ++ l.row-iterator ≡ l.rows.entries
