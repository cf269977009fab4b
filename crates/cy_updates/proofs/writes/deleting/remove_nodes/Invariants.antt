use Rattle.std.proofs.Common.{◌≡◌, ◌+◌, [], IsSome, filter, length, vec_len}
use Rattle.cy_updates.specs.internal.Deleting.{lies_among, without_nodes}
use Rattle.cy_updates.proofs.writes.deleting.remove_nodes.Given as goal

-- removing those that are left leads to the same graph
abbrev pub invariant-loop-id : goal.invariant-loop-id
invariant-loop-id l = record {
  removed : without_nodes l.ids.items l.store.graph.now ≡ without_nodes l.fn.ids.items l.fn.store.graph.now;
  alone : filter (lies_among l.ids.items) l.store.graph.now.content.rels ≡ [];
  count : l.gone + length l.store.graph.now.content.nodes ≡ length l.fn.store.graph.now.content.nodes;
  rels : l.store.graph.now.content.rels ≡ l.fn.store.graph.now.content.rels;
  was : l.store.graph.was ≡ l.fn.store.graph.was;
  opened : IsSome l.store.graph.was;
  indexes : l.store.chosen ≡ l.fn.store.chosen;
}

abbrev pub decreases-loop-id : goal.decreases-loop-id
decreases-loop-id l = vec_len l.ids
