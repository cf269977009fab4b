use Rattle.cy_graph.proofs.Graphs.{graph_of}
use Rattle.cy_graph.proofs.graph.Graph.laws.Goals as goal

pub returns : goal.returns
returns c =
    let inside = c.self.inside in
    rw (← c.self.view_is) (graph_of inside.nodes.now inside.rels.now c.laws.ensures c.laws-2.ensures c.self.invariant.now)
