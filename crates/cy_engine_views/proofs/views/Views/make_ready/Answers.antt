use Rattle.std.proofs.Common.{List, map, sym, ap, subst, ◌∙◌}
use Rattle.std.specs.Prelude.{IsSome}
use Rattle.cy_graph.specs.Graph.{Versions}
use Rattle.cy_network_sources.specs.Changes.{IsChange, before_change}
use Rattle.cy_network_relevance.specs.Masks.{mask_of}
use Rattle.cy_engine_views.specs.HeldViews.{Held, view_of}
use Rattle.cy_engine_views.specs.Upkeep.{Rests, entries_in, views_in}
use Rattle.cy_engine_views.specs.RegisteredViews.{AreEntries, Entries}
use Rattle.cy_engine_views.specs.internal.Loops.{AllCanRest, AllReady, AllRest, CanRest}
use Rattle.cy_engine_views.specs.declared.views.Views.{Views}
use Rattle.cy_engine_views.proofs.Going.{all_hold, none_done}
use Rattle.cy_engine_views.proofs.Making.{few_alike, named_alike}
use Rattle.cy_engine_views.proofs.Pending.{are_entries}
use Rattle.cy_engine_views.proofs.Steps.{IsHeldBack, rests_back}
use Rattle.cy_engine_views.proofs.views.Views.make_ready.Goals as goal

pub prepare_all-requires : goal.prepare_all-requires
prepare_all-requires c =
    let same = sym (c.of_change-mask.ensures.graph ∙ ap (λ s. s.graph) c.sight-sight.ensures) in
    record {
      touched = subst (λ (g : Versions). IsChange (before_change g) g.now c.in_ok-touched.touched) (sym c.of_change-mask.ensures.graph) c.in_ok-touched.ensures.change;
      mask = c.of_change-mask.ensures.mask ∙ ap (λ (g : Versions). mask_of g.now c.in_ok-touched.touched) (sym c.of_change-mask.ensures.graph);
      rest = (c.requires.stand.0, subst (λ (g : Versions). AllRest (before_change g).content c.requires.stand.0 c.args.self.now.registered.entries) same c.requires.stand.2.rest);
    }

-- the graph that the sight lends is the store's
pub returns-clause-entries : goal.returns-clause-entries
returns-clause-entries c =
    let graph = c.args.store.now.graph in
    let now = c.prepare_all.new.registry.entries in
    let stand = c.requires.stand in
    let ready : AllReady (before_change graph) graph.now c.args.tick now =
    subst (λ (g : Versions). AllRest (before_change g).content stand.0 c.args.self.now.registered.entries → AllReady (before_change g) g.now c.args.tick now) (c.of_change-mask.ensures.graph ∙ ap (λ s. s.graph) c.sight-sight.ensures)
    (λ rest. c.in_ok-prepare_all.ensures.ready stand.0 c.args.tick rest stand.1) stand.2.rest
    in
    subst (λ (es : Entries). AreEntries (views_in c.args.self.now) (before_change graph).content graph.now.content c.args.tick es) (sym (c.new-2.ensures ∙ c.in_ok-entries.ensures))
    (subst (λ (hs : List Held). AreEntries (map view_of hs) (before_change graph).content graph.now.content c.args.tick (entries_in c.args.tick now)) c.prepare_all.ensures.held
    (are_entries (before_change graph) graph.now c.args.tick now ready))

-- after a refusal each view can rest
pub returns-in_err-prepare_all-clause-back : goal.returns-in_err-prepare_all-clause-back
returns-in_err-prepare_all-clause-back c = λ last stand.
    subst (λ (g : Versions). AllRest (before_change g).content last c.args.self.now.registered.entries → AllCanRest (before_change g).content last c.prepare_all.new.registry.entries) (c.of_change-mask.ensures.graph ∙ ap (λ s. s.graph) c.sight-sight.ensures)
    (c.prepare_all.ensures.back last) stand.rest

pub returns-in_err-entries-clause-back : goal.returns-in_err-entries-clause-back
returns-in_err-entries-clause-back c = λ last stand.
    subst (λ (g : Versions). AllRest (before_change g).content last c.args.self.now.registered.entries → AllCanRest (before_change g).content last c.prepare_all.new.registry.entries) (c.of_change-mask.ensures.graph ∙ ap (λ s. s.graph) c.sight-sight.ensures)
    (c.prepare_all.ensures.back last) stand.rest

pub returns-clause-back : goal.returns-clause-back
returns-clause-back c = λ last stand.
    subst (λ (g : Versions). AllRest (before_change g).content last c.args.self.now.registered.entries → AllCanRest (before_change g).content last c.prepare_all.new.registry.entries) (c.of_change-mask.ensures.graph ∙ ap (λ s. s.graph) c.sight-sight.ensures)
    (c.prepare_all.ensures.back last) stand.rest

pub returns-clause-ready : goal.returns-clause-ready
returns-clause-ready c =
    let graph = c.args.store.now.graph in
    let now = c.prepare_all.new.registry.entries in
    let stand = c.requires.stand in
    let ready : AllReady (before_change graph) graph.now c.args.tick now =
    subst (λ (g : Versions). AllRest (before_change g).content stand.0 c.args.self.now.registered.entries → AllReady (before_change g) g.now c.args.tick now) (c.of_change-mask.ensures.graph ∙ ap (λ s. s.graph) c.sight-sight.ensures)
    (λ rest. c.in_ok-prepare_all.ensures.ready stand.0 c.args.tick rest stand.1) stand.2.rest
    in
    let left : Views = record c.args.self.now { registered = c.prepare_all.new.registry } in
    record {
      ready = ready;
      named = named_alike c.args.self.now left c.prepare_all.ensures.held stand.2.named;
      few = few_alike c.args.self.now left c.prepare_all.ensures.held stand.2.few;
      are = c.new-2.ensures ∙ c.in_ok-entries.ensures;
    }

pub new-requires : goal.new-requires
new-requires c = subst (λ (g : Versions). IsSome g.was) (sym (ap (λ s. s.graph) c.sight-sight.ensures)) c.requires.«open»

-- nothing is prepared yet
pub returns-in_err-touched-clause-back : goal.returns-in_err-touched-clause-back
returns-in_err-touched-clause-back c = λ last stand.
    let before = (before_change c.args.store.now.graph).content in
    let entries = c.args.self.now.registered.entries in
    all_hold (IsHeldBack before) (λ view. Rests view before last) (λ view. CanRest view before last) (λ view next rests held. held.back last rests) (λ view. rests_back before last view)
    entries entries 0 (none_done (IsHeldBack before) entries) stand.rest
