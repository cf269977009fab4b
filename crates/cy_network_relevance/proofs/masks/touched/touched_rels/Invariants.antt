use Rattle.std.proofs.Common.{◌≡◌}
use Rattle.cy_network_relevance.specs.Masks.{with_rels}
use Rattle.cy_network_relevance.specs.NameBits.{no_bits}
use Rattle.cy_network_relevance.proofs.masks.touched.touched_rels.Given as goal

-- what is left settles the bits
abbrev pub invariant-loop-number : goal.invariant-loop-number
invariant-loop-number l = record {
  bits : with_rels l.initial.sight.graph.now l.bits l.number-iterator ≡ with_rels l.initial.sight.graph.now no_bits l.change.rels;
  graph : l.sight.graph ≡ l.initial.sight.graph;
}
