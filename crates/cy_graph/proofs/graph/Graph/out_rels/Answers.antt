use Rattle.std.proofs.Common.{ap, ◌∙◌}
use Rattle.cy_graph.specs.internal.Adjacency.{ids_at}
use Rattle.cy_graph.specs.internal.Listed.{listed}
use Rattle.cy_graph.proofs.Listing.{listed_at}
use Rattle.cy_graph.proofs.graph.Graph.out_rels.Goals as goal

pub returns : goal.returns
returns c =
    let inside = c.self.inside in
    rw (← c.self.view_is) (c.new.ensures ∙ ap (listed inside.rels.now.entries) c.at.ensures ∙ listed_at (λ rel. rel.source.0) c.args.id.0 inside.rels.now (ids_at c.args.id.0 inside.outgoing.lists) c.laws.ensures (c.self.invariant.out_joined.now c.args.id.0))
