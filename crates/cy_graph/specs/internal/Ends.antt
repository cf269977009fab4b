-- The numbers of the relationships that begin, and of those that end, at a node.
use Rattle.std.specs.Prelude.{List, map}
use Rattle.cy_values.specs.declared.numbers.NodeId.{NodeId}
use Rattle.cy_values.specs.declared.numbers.RelId.{RelId}
use Rattle.cy_graph.specs.declared.nodes.Rel.{Rel}
use Rattle.cy_graph.specs.Graph.{incoming, outgoing}

-- by rising number
abbrev pub rels_from : NodeId → List (RelId × Rel) → List RelId
rels_from node rels = map (λ e. e.0) (outgoing node rels)

abbrev pub rels_into : NodeId → List (RelId × Rel) → List RelId
rels_into node rels = map (λ e. e.0) (incoming node rels)
