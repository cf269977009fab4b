use Rattle.std.proofs.Common.{◌≡◌, take}
use Rattle.cy_graph.proofs.maps.TextMapDuplicate.copy.Given as goal

-- the entries so far are copied
abbrev pub invariant-loop-key : goal.invariant-loop-key
invariant-loop-key g l = l.entries.items ≡ take l.key-index l.key-items
