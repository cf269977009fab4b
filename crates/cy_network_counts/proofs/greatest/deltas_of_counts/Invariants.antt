use Rattle.std.proofs.Common.{◌≡◌, ◌++◌}
use Rattle.cy_network_counts.proofs.GreatestCounts.{entry_deltas}
use Rattle.cy_network_counts.proofs.greatest.deltas_of_counts.Given as goal

-- the row deltas so far, and those of the entries that are left
abbrev pub invariant-loop-row : goal.invariant-loop-row
invariant-loop-row l = l.made.items ++ entry_deltas l.row-iterator ≡ entry_deltas l.fn.counts.entries
