use Rattle.std.proofs.Common.{◌≡◌, IsSome, drop}
use Rattle.std.specs.Prelude.{fold}
use Rattle.cy_graph.specs.Graph.{node_at, with_node_changed}
use Rattle.cy_updates.specs.internal.Entities.{relabelled}
use Rattle.cy_updates.proofs.writes.entities.relabel_node.Given as goal

-- the labels that are left lead to the same graph
abbrev pub invariant-loop-label : goal.invariant-loop-label
invariant-loop-label l = record {
  leads : fold (λ graph label. with_node_changed l.id (relabelled l.change label) graph) l.store.graph.now (drop l.label-index l.labels) ≡ fold (λ graph label. with_node_changed l.id (relabelled l.change label) graph) l.fn.store.graph.now l.labels;
  there : IsSome (node_at l.id l.store.graph.now);
  was : l.store.graph.was ≡ l.fn.store.graph.was;
  opened : IsSome l.store.graph.was;
  indexes : l.store.chosen ≡ l.fn.store.chosen;
}
