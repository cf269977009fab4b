use Rattle.std.proofs.Common.{IsSome, IsTrue, sym, ap, subst, ◌∙◌}
use Rattle.cy_graph.specs.declared.nodes.Rel.{Rel}
use Rattle.cy_graph.specs.Graph.{Versions}
use Rattle.cy_graph.specs.Maps.{rises}
use Rattle.cy_graph.specs.internal.Contents.{AreVersions}
use Rattle.cy_graph.specs.internal.Versions.{with_last}
use Rattle.cy_graph.specs.Model.{SeriesVersions}
use Rattle.cy_graph.proofs.Graphs.{there_named, rel_added_versions}
use Rattle.cy_graph.proofs.Kept.{joined_added, joined_reserved}
use Rattle.cy_graph.proofs.Relating.{reserved_are, rel_added_are, some_in_rels}
use Rattle.cy_graph.proofs.graph.Graph.add_rel.Goals as goal

-- room alone changes nothing
pub invariant_of-self : goal.invariant_of-self
invariant_of-self c =
    let inside = c.self.inside in
    let out = c.reserve.ensures in
    reserved_are inside.nodes inside.rels inside.outgoing inside.incoming c.reserve.new.self inside.incoming c.self.invariant
    (joined_reserved (λ rel. rel.source.0) inside.rels inside.outgoing c.reserve.new.self c.self.invariant.out_joined out.ids out.steps) c.self.invariant.in_joined

pub invariant_of-self-in_err-reserve-2 : goal.invariant_of-self-in_err-reserve-2
invariant_of-self-in_err-reserve-2 c =
    let inside = c.self.inside in
    let out = c.reserve.ensures in
    let into = c.reserve-2.ensures in
    reserved_are inside.nodes inside.rels inside.outgoing inside.incoming c.reserve.new.self c.reserve-2.new.self c.self.invariant
    (joined_reserved (λ rel. rel.source.0) inside.rels inside.outgoing c.reserve.new.self c.self.invariant.out_joined out.ids out.steps)
    (joined_reserved (λ rel. rel.target.0) inside.rels inside.incoming c.reserve-2.new.self c.self.invariant.in_joined into.ids into.steps)

pub invariant_of-self-in_err-add : goal.invariant_of-self-in_err-add
invariant_of-self-in_err-add c =
    let inside = c.self.inside in
    let out = c.reserve.ensures in
    let into = c.reserve-2.ensures in
    subst (λ r. AreVersions inside.nodes r c.reserve.new.self c.reserve-2.new.self) (sym c.in_err-add.ensures.err) (reserved_are inside.nodes inside.rels inside.outgoing inside.incoming c.reserve.new.self c.reserve-2.new.self c.self.invariant
    (joined_reserved (λ rel. rel.source.0) inside.rels inside.outgoing c.reserve.new.self c.self.invariant.out_joined out.ids out.steps)
    (joined_reserved (λ rel. rel.target.0) inside.rels inside.incoming c.reserve-2.new.self c.self.invariant.in_joined into.ids into.steps))

-- the relationship is in the lists of its ends
pub invariant_of-self-2 : goal.invariant_of-self-2
invariant_of-self-2 c =
    let inside = c.self.inside in
    let rel : Rel = record { source = c.args.source; target = c.args.target; kind = c.args.kind; props = c.args.props } in
    let is = c.new.ensures.rel ∙ ap (λ k. let r : Rel = record { source = c.args.source; target = c.args.target; kind = k; props = c.share_keys.new.self } in r) c.share.ensures ∙ ap (λ ps. let r : Rel = record rel { props = ps } in r) c.share_keys.ensures in
    let props_rise = subst (λ ps. IsTrue (rises ps)) c.share_keys.ensures c.new.ensures.props_rise in
    let open_change = some_in_rels inside.nodes.was inside.rels.was c.self.invariant.both (subst (λ (v : Versions). IsSome v.was) (sym c.self.view_is) c.requires.open) in
    let number = c.in_ok-next_number.ensures.number in
    let out = c.in_ok-reserve.ensures in
    let into = c.in_ok-reserve-2.ensures in
    let added_out = rw number at c.add-2.ensures in
    let added_into = rw number at c.add-3.ensures in
    let reserved_out = joined_reserved (λ x. x.source.0) inside.rels inside.outgoing c.reserve.new.self c.self.invariant.out_joined out.ids out.steps in
    let reserved_into = joined_reserved (λ x. x.target.0) inside.rels inside.incoming c.reserve-2.new.self c.self.invariant.in_joined into.ids into.steps in
    subst (λ r. AreVersions inside.nodes r c.add-2.new.self c.add-3.new.self) (sym (c.in_ok-add.ensures.added ∙ ap (λ x. let l : SeriesVersions Rel = record inside.rels { now = with_last x inside.rels.now } in l) is))
    (rel_added_are inside.nodes inside.rels inside.outgoing inside.incoming c.add-2.new.self c.add-3.new.self c.self.invariant rel (record { props = props_rise; stored = c.requires.storable })
    (there_named inside.nodes inside.rels c.args.self.now c.args.source c.self.view_is c.requires.from, there_named inside.nodes inside.rels c.args.self.now c.args.target c.self.view_is c.requires.to)
    (joined_added (λ x. x.source.0) inside.rels rel c.reserve.new.self c.add-2.new.self open_change reserved_out added_out.ids added_out.steps)
    (joined_added (λ x. x.target.0) inside.rels rel c.reserve-2.new.self c.add-3.new.self open_change reserved_into added_into.ids added_into.steps))

-- it goes last
pub returns-clause-added : goal.returns-clause-added
returns-clause-added c =
    let inside = c.self.inside in
    let rel : Rel = record { source = c.args.source; target = c.args.target; kind = c.args.kind; props = c.args.props } in
    let is = c.new.ensures.rel ∙ ap (λ k. let r : Rel = record { source = c.args.source; target = c.args.target; kind = k; props = c.share_keys.new.self } in r) c.share.ensures ∙ ap (λ ps. let r : Rel = record rel { props = ps } in r) c.share_keys.ensures in
    rw (← c.self.view_is, c.in_ok-add.ensures.added, is) (rel_added_versions inside.nodes inside.rels rel)
