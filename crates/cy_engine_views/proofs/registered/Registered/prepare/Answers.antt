use Rattle.std.proofs.Common.{true, Some, refl, sym, ap, ◌∙◌}
use Rattle.cy_network_sources.specs.Changes.{before_change}
use Rattle.cy_feeds.specs.Feeds.{Kept}
use Rattle.cy_engine_views.specs.declared.registered.Registered.{Registered}
use Rattle.cy_engine_views.proofs.Readying.{ready_changed, ready_unchanged, ready_unconcerned}
use Rattle.cy_engine_views.proofs.registered.Registered.prepare.Goals as goal

pub prepare-requires : goal.prepare-requires
prepare-requires c = record { change = c.requires.touched; stands = c.requires.rests.1.rows }

pub pending-change-requires : goal.pending-change-requires
pending-change-requires c = (before_change c.args.sight.now.graph, (c.args.sight.now.graph.now, c.in_ok-prepare.ensures.prepared))

pub returns-then-not-may_change-clause-ready : goal.returns-then-not-may_change-clause-ready
returns-then-not-may_change-clause-ready c =
    let graph = c.args.sight.now.graph in
    ready_unconcerned c.args.self.now (before_change graph) graph.now c.args.touched.now c.requires.touched
    (c.may_change.ensures c.if-not-may_change.true (before_change graph) graph.now c.args.touched.now c.requires.touched c.requires.mask)

pub returns-then-is_empty-clause-ready : goal.returns-then-is_empty-clause-ready
returns-then-is_empty-clause-ready c =
    let graph = c.args.sight.now.graph in
    let next : Registered = record c.args.self.now { rows = c.prepare.new.self; prepared = true } in
    ready_unchanged c.args.self.now next (before_change graph) graph.now c.pending-change.result.now c.in_ok-prepare.ensures.prepared refl c.pending-change.ensures
    (sym c.is_empty.ensures ∙ c.if-is_empty.true) refl refl

pub returns-clause-ready : goal.returns-clause-ready
returns-clause-ready c =
    let graph = c.args.sight.now.graph in
    let next : Registered = record c.args.self.now { rows = c.prepare.new.self; feed = c.reserve.new.self; prepared = true; change = Some c.in_ok-copy.field-0 } in
    ready_changed c.args.self.now next (before_change graph) graph.now c.pending-change.result.now c.in_ok-prepare.ensures.prepared refl c.pending-change.ensures
    c.row_order_laws.ensures.total (sym c.is_empty.ensures ∙ c.if-is_empty.false) (ap Some c.in_ok-copy.ensures) c.in_ok-reserve.ensures.reserved (ap (λ (f : Kept). f.history) c.reserve.ensures.same)
