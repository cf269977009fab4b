-- what is noted so far
use Rattle.std.proofs.Common.{◌≡◌, ℕ, None, map}
use Rattle.cy_graph.specs.Touched.{before_image}
use Rattle.cy_network_sources.specs.Changes.{image_at}
use Rattle.cy_network_sources.specs.internal.Images.{nodes_noted, rels_noted}
use Rattle.cy_network_sources.proofs.noted.Noted.new.Given as goal

abbrev pub invariant-loop-entity : goal.invariant-loop-entity
invariant-loop-entity l = record {
  nodes : (number : ℕ) → image_at number l.change.nodes ≡ nodes_noted number (map before_image l.yielded) None;
  rels : (number : ℕ) → image_at number l.change.rels ≡ rels_noted number (map before_image l.yielded) None;
}
