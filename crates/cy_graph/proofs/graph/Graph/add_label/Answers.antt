use Rattle.std.proofs.Common.{◌≡◌, OnOk, subst}
use Rattle.cy_graph.specs.declared.nodes.Node.{Node}
use Rattle.cy_graph.specs.Graph.{with_label}
use Rattle.cy_graph.specs.internal.Versions.{with_edited}
use Rattle.cy_graph.specs.Model.{SeriesVersions}
use Rattle.cy_graph.proofs.Contents.{node_labelled}
use Rattle.cy_graph.proofs.Graphs.{there_named}
use Rattle.cy_graph.proofs.Edited.{node_edited_are, node_edited_versions}
use Rattle.cy_graph.proofs.graph.Graph.add_label.Goals as goal

pub edit-requires-clause-there : goal.edit-requires-clause-there
edit-requires-clause-there c = there_named c.self.inside.nodes c.self.inside.rels c.args.self.now c.args.id c.self.view_is c.requires.there

pub invariant_of-self : goal.invariant_of-self
invariant_of-self c =
    let inside = c.self.inside in
    let edited = subst (λ l. OnOk c.edit.result (c.edit.new.self ≡ (let n : SeriesVersions Node = record inside.nodes { now = with_edited (with_label l) c.args.id.0 inside.nodes.now } in n))) c.share.ensures c.edit.ensures.ok in
    node_edited_are c.edit.result inside.nodes c.edit.new.self inside.rels inside.outgoing inside.incoming (with_label c.args.label) c.args.id.0 c.self.invariant (node_labelled c.args.label) edited c.edit.ensures.err

-- the node is changed
pub returns-clause-ok : goal.returns-clause-ok
returns-clause-ok c =
    let inside = c.self.inside in
    let edited = subst (λ l. OnOk c.edit.result (c.edit.new.self ≡ (let n : SeriesVersions Node = record inside.nodes { now = with_edited (with_label l) c.args.id.0 inside.nodes.now } in n))) c.share.ensures c.edit.ensures.ok in
    node_edited_versions c.edit.result inside.nodes c.edit.new.self inside.rels c.args.self.now c.self.view_is (with_label c.args.label) c.args.id edited
