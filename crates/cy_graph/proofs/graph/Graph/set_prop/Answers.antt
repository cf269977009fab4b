use Rattle.std.proofs.Common.{◌≡◌, OnOk, refl, subst}
use Rattle.cy_graph.specs.declared.nodes.Node.{Node}
use Rattle.cy_graph.specs.declared.nodes.Rel.{Rel}
use Rattle.cy_graph.specs.internal.Versions.{with_edited}
use Rattle.cy_graph.specs.Model.{SeriesVersions}
use Rattle.cy_graph.specs.Graph.{set_at, rel_set_at, IsThere}
use Rattle.cy_graph.proofs.Contents.{node_set, rel_set}
use Rattle.cy_graph.proofs.Graphs.{there_named, there_joined}
use Rattle.cy_graph.proofs.Edited.{node_edited_are, node_edited_versions, rel_edited_stay, rel_edited_versions_are}
use Rattle.cy_graph.proofs.graph.Graph.set_prop.Goals as goal

pub edit-requires-clause-there : goal.edit-requires-clause-there
edit-requires-clause-there c =
    there_named c.self.inside.nodes c.self.inside.rels c.args.self.now c.in-Node.id c.self.view_is (subst (λ entity. IsThere entity c.args.self.now.now) c.in-Node.is c.requires.there)

pub edit-requires-in-Rel-clause-there : goal.edit-requires-in-Rel-clause-there
edit-requires-in-Rel-clause-there c =
    there_joined c.self.inside.nodes c.self.inside.rels c.args.self.now c.in-Rel.id c.self.view_is (subst (λ entity. IsThere entity c.args.self.now.now) c.in-Rel.is c.requires.there)

pub invariant_of-self : goal.invariant_of-self
invariant_of-self c =
    let inside = c.self.inside in
    let edited = subst (λ k. OnOk c.edit.result (c.edit.new.self ≡ (let n : SeriesVersions Node = record inside.nodes { now = with_edited (set_at k c.args.value) c.in-Node.id.0 inside.nodes.now } in n))) c.share.ensures c.edit.ensures.ok in
    node_edited_are c.edit.result inside.nodes c.edit.new.self inside.rels inside.outgoing inside.incoming (set_at c.args.key c.args.value) c.in-Node.id.0 c.self.invariant
    (node_set c.args.key c.args.value c.requires.storable) edited c.edit.ensures.err

-- the node has the property
pub returns-in-Node-clause-ok : goal.returns-in-Node-clause-ok
returns-in-Node-clause-ok c =
    let inside = c.self.inside in
    let edited = subst (λ k. OnOk c.edit.result (c.edit.new.self ≡ (let n : SeriesVersions Node = record inside.nodes { now = with_edited (set_at k c.args.value) c.in-Node.id.0 inside.nodes.now } in n))) c.share.ensures c.edit.ensures.ok in
    rw c.in-Node.is (node_edited_versions c.edit.result inside.nodes c.edit.new.self inside.rels c.args.self.now c.self.view_is (set_at c.args.key c.args.value) c.in-Node.id edited)

pub invariant_of-self-in-Rel : goal.invariant_of-self-in-Rel
invariant_of-self-in-Rel c =
    let inside = c.self.inside in
    let edit = c.edit-in-Rel in
    let edited = subst (λ k. OnOk edit.result (edit.new.self ≡ (let r : SeriesVersions Rel = record inside.rels { now = with_edited (rel_set_at k c.args.value) c.in-Rel.id.0 inside.rels.now } in r))) c.share.ensures edit.ensures.ok in
    rel_edited_stay edit.result inside.nodes inside.rels edit.new.self inside.outgoing inside.incoming (rel_set_at c.args.key c.args.value) c.in-Rel.id.0 c.self.invariant c.laws.ensures
    (rel_set c.args.key c.args.value c.requires.storable) (λ rel. refl) (λ rel. refl) edited edit.ensures.err

-- the relationship has the property
pub returns-in-Rel-clause-ok : goal.returns-in-Rel-clause-ok
returns-in-Rel-clause-ok c =
    let inside = c.self.inside in
    let edit = c.edit-in-Rel in
    let edited = subst (λ k. OnOk edit.result (edit.new.self ≡ (let r : SeriesVersions Rel = record inside.rels { now = with_edited (rel_set_at k c.args.value) c.in-Rel.id.0 inside.rels.now } in r))) c.share.ensures edit.ensures.ok in
    rw c.in-Rel.is (rel_edited_versions_are edit.result inside.nodes inside.rels edit.new.self c.args.self.now c.self.view_is (rel_set_at c.args.key c.args.value) c.in-Rel.id edited)
