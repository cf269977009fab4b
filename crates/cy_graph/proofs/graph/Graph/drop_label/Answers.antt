use Rattle.cy_graph.specs.Graph.{without_label}
use Rattle.cy_graph.proofs.Contents.{node_unlabelled}
use Rattle.cy_graph.proofs.Graphs.{there_named}
use Rattle.cy_graph.proofs.Edited.{node_edited_are, node_edited_versions}
use Rattle.cy_graph.proofs.graph.Graph.drop_label.Goals as goal

pub edit-requires-clause-there : goal.edit-requires-clause-there
edit-requires-clause-there c = there_named c.self.inside.nodes c.self.inside.rels c.args.self.now c.args.id c.self.view_is c.requires.there

pub invariant_of-self : goal.invariant_of-self
invariant_of-self c =
    let inside = c.self.inside in
    node_edited_are c.edit.result inside.nodes c.edit.new.self inside.rels inside.outgoing inside.incoming (without_label c.args.label.now) c.args.id.0 c.self.invariant (node_unlabelled c.args.label.now) c.edit.ensures.ok c.edit.ensures.err

-- the node is changed
pub returns-clause-ok : goal.returns-clause-ok
returns-clause-ok c = node_edited_versions c.edit.result c.self.inside.nodes c.edit.new.self c.self.inside.rels c.args.self.now c.self.view_is (without_label c.args.label.now) c.args.id c.edit.ensures.ok
