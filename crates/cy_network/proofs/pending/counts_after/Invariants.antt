use Rattle.std.proofs.Common.{◌≡◌, map}
use Rattle.cy_network.proofs.pending.counts_after.Given as goal

-- the rows of the row deltas so far
abbrev pub invariant-loop-row_delta : goal.invariant-loop-row_delta
invariant-loop-row_delta l = l.next.items ≡ map (λ s. (s.row, s.after)) l.yielded
