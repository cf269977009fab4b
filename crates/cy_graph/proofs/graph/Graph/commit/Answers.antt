use Rattle.cy_graph.proofs.Relating.{committed_are}
use Rattle.cy_graph.proofs.graph.Graph.commit.Goals as goal

pub invariant_of-self : goal.invariant_of-self
invariant_of-self c =
    let inside = c.self.inside in
    let out = c.commit-3.ensures in
    let into = c.commit-4.ensures in
    committed_are inside.nodes c.commit.new.self inside.rels c.commit-2.new.self inside.outgoing inside.incoming c.commit-3.new.self c.commit-4.new.self c.self.invariant c.commit.ensures c.commit-2.ensures out.ids out.steps into.ids into.steps
