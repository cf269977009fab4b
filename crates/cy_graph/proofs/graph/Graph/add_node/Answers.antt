use Rattle.std.proofs.Common.{IsTrue, sym, ap, subst, ◌∙◌}
use Rattle.cy_graph.specs.declared.nodes.Node.{Node}
use Rattle.cy_graph.specs.Maps.{rises}
use Rattle.cy_graph.specs.internal.Contents.{AreVersions}
use Rattle.cy_graph.specs.internal.Versions.{with_last}
use Rattle.cy_graph.specs.Model.{SeriesVersions}
use Rattle.cy_graph.proofs.Graphs.{added_are, added_versions}
use Rattle.cy_graph.proofs.graph.Graph.add_node.Goals as goal

pub invariant_of-self-2 : goal.invariant_of-self-2
invariant_of-self-2 c =
    let inside = c.self.inside in
    let node : Node = record { labels = c.args.labels; props = c.args.props } in
    let is = c.new.ensures.node ∙ ap (λ ls. let n : Node = record { labels = ls; props = c.share_keys-2.new.self } in n) c.share_keys.ensures ∙ ap (λ ps. let n : Node = record { labels = c.args.labels; props = ps } in n) c.share_keys-2.ensures in
    let labels_rise = subst (λ ls. IsTrue (rises ls)) c.share_keys.ensures c.new.ensures.labels_rise in
    let props_rise = subst (λ ps. IsTrue (rises ps)) c.share_keys-2.ensures c.new.ensures.props_rise in
    subst (λ n. AreVersions n inside.rels inside.outgoing inside.incoming) (sym (c.in_ok-add.ensures.added ∙ ap (λ n. let l : SeriesVersions Node = record inside.nodes { now = with_last n inside.nodes.now } in l) is))
    (added_are inside.nodes inside.rels inside.outgoing inside.incoming c.self.invariant node (record { labels = labels_rise; props = props_rise; stored = c.requires.storable }))

-- the node goes last
pub returns-clause-added : goal.returns-clause-added
returns-clause-added c =
    let inside = c.self.inside in
    let node : Node = record { labels = c.args.labels; props = c.args.props } in
    let is = c.new.ensures.node ∙ ap (λ ls. let n : Node = record { labels = ls; props = c.share_keys-2.new.self } in n) c.share_keys.ensures ∙ ap (λ ps. let n : Node = record { labels = c.args.labels; props = ps } in n) c.share_keys-2.ensures in
    rw (← c.self.view_is, c.in_ok-add.ensures.added, is) (added_versions inside.nodes inside.rels node)
