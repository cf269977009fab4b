use Rattle.std.proofs.Common.{◌≡◌, ◌+◌, ◌<◌, ℕ, List, map, refl, sym, ap, subst, ◌∙◌, arith}
use Rattle.std.proofs.lemmas.Result.{err_from_is_err_and}
use Rattle.cy_graph.specs.Graph.{Versions}
use Rattle.cy_network_sources.specs.Changes.{IsChange, before_change}
use Rattle.cy_network_relevance.specs.Masks.{mask_of}
use Rattle.cy_engine_views.specs.declared.registered.Registered.{Registered}
use Rattle.cy_engine_views.specs.HeldViews.{Held}
use Rattle.cy_engine_views.specs.Upkeep.{CannotFollow, IsReady, Registry, Rests, held, upkeep_of}
use Rattle.cy_engine_views.specs.internal.Loops.{CanRest, IsOne}
use Rattle.cy_engine_views.proofs.Going.{FirstDone, all_done, all_hold, next_done, next_is, no_more, none_done, related_hold, same_held, still_done}
use Rattle.cy_engine_views.proofs.Served.{follows_not}
use Rattle.cy_engine_views.proofs.Steps.{IsHeldBack, IsPreparedFrom, prepared_back, rests_back, some_too_many}
use Rattle.cy_engine_views.proofs.registry.prepare_all.Goals as goal
use Rattle.cy_engine_views.proofs.registry.prepare_all.Goals.{in-Some+in_ok-prepare, in_default}

-- what preparing one view leaves, told of the graph at the beginning
module _ (view next : Registered) where
  prepared_from : (graph initial : Versions) → graph ≡ initial
      → ((last tick : ℕ) → Rests view (before_change graph).content last → last < tick → IsReady next (before_change graph) graph.now tick) → IsOne view next
      → IsPreparedFrom (before_change initial) initial.now view next
  prepared_from graph initial same ready one =
      subst (λ (g : Versions). IsPreparedFrom (before_change g) g.now view next) same (record { ready = ready; one = one })

  held_back : (graph initial : Versions) → graph ≡ initial → ((last : ℕ) → Rests view (before_change graph).content last → CanRest next (before_change graph).content last) → IsOne view next
      → IsHeldBack (before_change initial).content view next
  held_back graph initial same back one = subst (λ (g : Versions). IsHeldBack (before_change g).content view next) same (record { back = back; one = one })

pub loop-at-init : goal.loop-at-init
loop-at-init c = record {
  done = none_done (IsPreparedFrom (before_change c.args.sight.now.graph) c.args.sight.now.graph.now) c.args.registry.now.entries;
  graph = refl;
}

pub prepare-requires : goal.prepare-requires
prepare-requires c =
    let first = c.args.sight.now.graph in
    let same = sym c.loop-at.invariant.graph in
    let rest = c.requires.rest in
    record {
      touched = subst (λ (g : Versions). IsChange (before_change g) g.now c.args.touched.now) same c.requires.touched;
      mask = subst (λ (g : Versions). c.args.mask ≡ mask_of g.now c.args.touched.now) same c.requires.mask;
      rests = (
        rest.0,
        subst (λ (g : Versions). Rests c.in-Some.view.now (before_change g).content rest.0) same
            (next_is (IsPreparedFrom (before_change first) first.now) (λ view. Rests view (before_change first).content rest.0) c.args.registry.now.entries c.loop-at.registry.entries c.loop-at.at
            c.loop-at.invariant.done c.in-Some.view.now c.in-Some.ensures.value rest.1),
      );
    }

-- one view more is ready, or there is none
pub loop-at-preserved : goal.loop-at-preserved
loop-at-preserved c =
    let first = c.args.sight.now.graph in
    let R = IsPreparedFrom (before_change first) first.now in
    let entries = c.args.registry.now.entries in
    let now = c.loop-at.registry.entries in
    elim c.match-get_index_mut.branch [
      | in-Some+in_ok-prepare w ↦
          let is = ap (λ m. m.entries) w.registry-is in
          record {
            done = subst (λ (es : Registry). FirstDone R (c.loop-at.at + 1) entries es) (sym is)
                (next_done R entries now c.loop-at.at c.loop-at.invariant.done w.in-Some.view.now _ w.in-Some.ensures.value
                (prepared_from w.in-Some.view.now _ c.loop-at.sight.graph first c.loop-at.invariant.graph w.in_ok-prepare.ensures.ready w.prepare.ensures.one));
            graph = ap (λ s. s.graph) w.sight-is ∙ w.prepare.ensures.sight ∙ c.loop-at.invariant.graph;
          }
      | in_default w ↦
          record {
            done = subst (λ (es : Registry). FirstDone R (c.loop-at.at + 1) entries es) (sym (ap (λ m. m.entries) w.registry-is))
                (no_more R entries now c.loop-at.at c.loop-at.invariant.done w.in_default.ensures.value);
            graph = ap (λ s. s.graph) w.sight-is ∙ c.loop-at.invariant.graph;
          }
    ]

pub returns-in_err-prepare-clause-back : goal.returns-in_err-prepare-clause-back
returns-in_err-prepare-clause-back c = λ last all.
    let first = c.args.sight.now.graph in
    let B = IsHeldBack (before_change first).content in
    let done = still_done {S = B} (prepared_back (before_change first) first.now) c.args.registry.now.entries c.loop-at.registry.entries c.loop-at.at c.loop-at.invariant.done in
    let next = next_done B c.args.registry.now.entries c.loop-at.registry.entries c.loop-at.at done c.in-Some.view.now _ c.in-Some.ensures.value
    (held_back c.in-Some.view.now _ c.loop-at.sight.graph first c.loop-at.invariant.graph c.in_err-prepare.ensures.err c.prepare.ensures.one)
    in
    all_hold B (λ view. Rests view (before_change first).content last) (λ view. CanRest view (before_change first).content last) (λ view next rests held. held.back last rests)
    (λ view. rests_back (before_change first).content last view) c.args.registry.now.entries _ (c.loop-at.at + 1) next all

pub returns-in_err-prepare-clause-held : goal.returns-in_err-prepare-clause-held
returns-in_err-prepare-clause-held c =
    let first = c.args.sight.now.graph in
    let B = IsHeldBack (before_change first).content in
    let done = still_done {S = B} (prepared_back (before_change first) first.now) c.args.registry.now.entries c.loop-at.registry.entries c.loop-at.at c.loop-at.invariant.done in
    let next = next_done B c.args.registry.now.entries c.loop-at.registry.entries c.loop-at.at done c.in-Some.view.now _ c.in-Some.ensures.value
    (held_back c.in-Some.view.now _ c.loop-at.sight.graph first c.loop-at.invariant.graph c.in_err-prepare.ensures.err c.prepare.ensures.one)
    in
    same_held B (λ view next held. held.one) c.args.registry.now.entries _ (c.loop-at.at + 1) next

pub returns-clause-ready : goal.returns-clause-ready
returns-clause-ready c = λ last tick all later.
    let first = c.args.sight.now.graph in
    let R = IsPreparedFrom (before_change first) first.now in
    let entries = c.args.registry.now.entries in
    let related = all_done R entries c.loop-at.registry.entries c.loop-at.at (omega (arith, c.len-at-end.ensures.len)) c.loop-at.invariant.done in
    related_hold R (λ view. Rests view (before_change first).content last) (λ view. IsReady view (before_change first) first.now tick) (λ view next rests prepared. prepared.ready last tick rests later)
    entries c.loop-at.registry.entries related all

pub returns-clause-back : goal.returns-clause-back
returns-clause-back c = λ last all.
    let first = c.args.sight.now.graph in
    let R = IsPreparedFrom (before_change first) first.now in
    all_hold R (λ view. Rests view (before_change first).content last) (λ view. CanRest view (before_change first).content last)
    (λ view next rests prepared. (prepared_back (before_change first) first.now view next prepared).back last rests) (λ view. rests_back (before_change first).content last view)
    c.args.registry.now.entries c.loop-at.registry.entries c.loop-at.at c.loop-at.invariant.done all

pub returns-clause-held : goal.returns-clause-held
returns-clause-held c =
    let first = c.args.sight.now.graph in
    same_held (IsPreparedFrom (before_change first) first.now) (λ view next prepared. prepared.one) c.args.registry.now.entries c.loop-at.registry.entries c.loop-at.at c.loop-at.invariant.done

-- the view that is refused is one of them, with the plan that it had
pub returns-in_err-prepare-clause-refused : goal.returns-in_err-prepare-clause-refused
returns-in_err-prepare-clause-refused c =
    let p = err_from_is_err_and c.from_residual.result c.from_residual.ensures.1 in
    let first = c.args.sight.now.graph in
    let now = c.loop-at.registry.entries in
    let same = same_held (IsPreparedFrom (before_change first) first.now) (λ view next prepared. prepared.one) c.args.registry.now.entries now c.loop-at.at c.loop-at.invariant.done in
    rw (p.1, p.2) (subst (λ (g : Versions). CannotFollow (map upkeep_of (map held c.args.registry.now.entries)) g.now.content c.in_err-prepare.field-0.0) c.loop-at.invariant.graph
    (subst (λ (hs : List Held). CannotFollow (map upkeep_of hs) c.loop-at.sight.graph.now.content c.in_err-prepare.field-0.0) same
    (follows_not _ (map upkeep_of (map held now)) c.loop-at.sight.graph.now.content c.in_err-prepare.field-0.0
    (some_too_many c.loop-at.sight.graph.now.content now c.loop-at.at c.in-Some.view.now c.in-Some.ensures.value) c.in_err-prepare.ensures.refused)))
