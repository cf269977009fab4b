use Rattle.std.proofs.Common.{◌≡◌}
use Rattle.cy_graph.proofs.maps.TextMap.collected.Given as goal

-- the entries so far are those that were given out
abbrev pub invariant-loop-entry : goal.invariant-loop-entry
invariant-loop-entry g l = l.entries.items ≡ l.yielded
