-- what the rows so far make; each reads one entity at most
use Rattle.std.proofs.Common.{◌≡◌, ◌≤◌, ◌+◌, ◌++◌, length}
use Rattle.std.specs.Prelude.{flat_map}
use Rattle.cy_graph.specs.Graph.{State}
use Rattle.cy_network_sources.specs.Changes.{IsChange}
use Rattle.cy_network_sources.specs.internal.Attributes.{reattributed}
use Rattle.cy_network_sources.proofs.lookups.add_changed.Given as goal

abbrev pub invariant-loop-row_delta : goal.invariant-loop-row_delta
invariant-loop-row_delta l = record {
  made : (before : State) → IsChange before l.initial.sight.graph.now l.change
      → l.made.items ≡ l.initial.made.items ++ flat_map (reattributed before.content l.initial.sight.graph.now.content l.asked.column l.asked.attribute.now) l.yielded;
  graph : l.sight.graph ≡ l.initial.sight.graph;
  reads : l.sight.reads ≤ l.initial.sight.reads + length l.yielded;
}
