use Rattle.std.proofs.Common.{◌≡◌, None, sym, ap, ◌∙◌}
use Rattle.std.specs.Prelude.{slice_get}
use Rattle.cy_graph.specs.Graph.{Versions, rels_with}
use Rattle.cy_graph.specs.Model.{rels_of}
use Rattle.cy_graph.proofs.Graphs.{there_named}
use Rattle.cy_graph.proofs.Edited.{node_removed_are, node_removed_versions}
use Rattle.cy_graph.proofs.graph.Graph.remove_node.Goals as goal

pub remove-requires-clause-there : goal.remove-requires-clause-there
remove-requires-clause-there c = there_named c.self.inside.nodes c.self.inside.rels c.args.self.now c.args.id c.self.view_is c.requires.there

pub invariant_of-self : goal.invariant_of-self
invariant_of-self c =
    let inside = c.self.inside in
    let none : slice_get (rels_with c.args.id (rels_of inside.rels.now.entries)) 0 ≡ None =
    ap (λ (v : Versions). slice_get (rels_with c.args.id v.now.content.rels) 0) c.self.view_is ∙ sym c.least_rel.ensures ∙ c.in_default.is in
    node_removed_are c.remove.result inside.nodes c.remove.new.self inside.rels inside.outgoing inside.incoming c.args.id c.self.invariant none c.remove.ensures.ok c.remove.ensures.err

-- the node is gone
pub returns-clause-ok : goal.returns-clause-ok
returns-clause-ok c = node_removed_versions c.remove.result c.self.inside.nodes c.remove.new.self c.self.inside.rels c.args.self.now c.self.view_is c.args.id c.remove.ensures.ok
