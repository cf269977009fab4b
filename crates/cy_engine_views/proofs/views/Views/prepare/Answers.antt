use Rattle.std.proofs.Common.{◌∙◌}
use Rattle.cy_network_sources.specs.Changes.{before_change}
use Rattle.cy_engine_views.specs.declared.views.Views.{Views}
use Rattle.cy_engine_views.proofs.Making.{few_alike, named_alike}
use Rattle.cy_engine_views.proofs.Pending.{none_changed, none_ready}
use Rattle.cy_engine_views.proofs.views.Views.prepare.Goals as goal

pub returns-in-Err-clause-err : goal.returns-in-Err-clause-err
returns-in-Err-clause-err c = λ last stand.
    let left : Views = record c.make_ready.new.self { registered = c.abandon_all.new.registry } in
    let held = c.abandon_all.ensures.held ∙ c.in-Err.ensures.held in
    record {
      rest = c.abandon_all.ensures.rest (before_change c.args.store.now.graph).content last (c.in-Err.ensures.back last stand);
      named = named_alike c.args.self.now left held stand.named;
      few = few_alike c.args.self.now left held stand.few;
    }

pub returns-then-is_empty-clause-ready : goal.returns-then-is_empty-clause-ready
returns-then-is_empty-clause-ready c =
    let graph = c.args.store.now.graph in
    none_ready c.args.self.now (c.is_empty.ensures.0 c.if-is_empty.true) (before_change graph) graph.now c.args.tick _ (c.new-then-is_empty.ensures ∙ c.new.ensures.items)

pub returns-then-is_empty-clause-entries : goal.returns-then-is_empty-clause-entries
returns-then-is_empty-clause-entries c =
    let graph = c.args.store.now.graph in
    none_changed c.args.self.now (c.is_empty.ensures.0 c.if-is_empty.true) (before_change graph) graph.now c.args.tick _ (c.new-then-is_empty.ensures ∙ c.new.ensures.items)
