use Rattle.std.proofs.Common.{◌≡◌}
use Rattle.cy_graph.proofs.maps.share_each.Given as goal

-- the entries are the same
abbrev pub invariant-loop-entry : goal.invariant-loop-entry
invariant-loop-entry g l = l.entries ≡ l.initial.entries
