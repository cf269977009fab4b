use Rattle.std.proofs.Common.{◌≡◌, length}
use Rattle.cy_graph.specs.internal.Listed.{listed}
use Rattle.cy_graph.proofs.iterators.RelsAtIterator.next.Given as goal

-- only numbers of no relationship were passed
abbrev pub invariant-loop-id : goal.invariant-loop-id
invariant-loop-id l = record {
  rels : l.self-inside.rels ≡ l.initial.self-inside.rels;
  same : listed l.self-inside.rels.now.now.entries l.self-inside.ids.rest.now ≡ listed l.initial.self-inside.rels.now.now.entries l.initial.self-inside.ids.rest.now;
}

abbrev pub decreases-loop-id : goal.decreases-loop-id
decreases-loop-id l = length l.self-inside.ids.rest.now
