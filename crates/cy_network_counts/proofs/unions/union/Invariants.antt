use Rattle.std.proofs.Common.{◌≡◌, ◌++◌}
use Rattle.cy_network_counts.proofs.unions.union.Given as goal

-- the row deltas of the left part, and those of the right part so far
abbrev pub invariant-loop-row_delta : goal.invariant-loop-row_delta
invariant-loop-row_delta g l = l.changes.items ≡ l.initial.changes.items ++ l.yielded
