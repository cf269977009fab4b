use Rattle.std.proofs.Common.{◌≡◌, ◌++◌, drop}
use Rattle.cy_updates.specs.internal.Deleting.{rels_at}
use Rattle.cy_updates.proofs.writes.deleting.push_rels_at.Given as goal

-- the relationships so far, and those at the nodes that are left
abbrev pub invariant-loop-id : goal.invariant-loop-id
invariant-loop-id l = l.rels.items ++ rels_at (drop l.id-index l.nodes) l.store.graph.now.content.rels ≡ l.fn.rels.items ++ rels_at l.nodes l.store.graph.now.content.rels
