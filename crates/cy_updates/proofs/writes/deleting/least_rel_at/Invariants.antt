use Rattle.std.proofs.Common.{◌≡◌, filter, map, take}
use Rattle.std.specs.Prelude.{slice_get}
use Rattle.cy_updates.specs.internal.Deleting.{lies_among}
use Rattle.cy_updates.proofs.writes.deleting.least_rel_at.Given as goal

-- the least one at the nodes so far
abbrev pub invariant-loop-id : goal.invariant-loop-id
invariant-loop-id l = l.least ≡ slice_get (map (λ e. e.0) (filter (lies_among (take l.id-index l.nodes)) l.store.graph.now.content.rels)) 0
