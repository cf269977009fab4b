use Rattle.std.proofs.Common.{◌+◌, sym, ap, subst, arith}
use Rattle.cy_engine_views.specs.Upkeep.{Registry, Rests}
use Rattle.cy_engine_views.specs.internal.Loops.{CanRest}
use Rattle.cy_engine_views.proofs.Going.{FirstDone, all_done, next_done, no_more, none_done, related_hold, same_held}
use Rattle.cy_engine_views.proofs.Steps.{IsAbandonedFrom}
use Rattle.cy_engine_views.proofs.registry.abandon_all.Goals as goal
use Rattle.cy_engine_views.proofs.registry.abandon_all.Goals.{in-Some, in_default}

pub loop-at-init : goal.loop-at-init
loop-at-init c = none_done IsAbandonedFrom c.args.registry.now.entries

pub loop-at-preserved : goal.loop-at-preserved
loop-at-preserved c =
    let entries = c.args.registry.now.entries in
    let now = c.loop-at.registry.entries in
    elim c.match-get_index_mut.branch [
      | in-Some w ↦ subst (λ (es : Registry). FirstDone IsAbandonedFrom (c.loop-at.at + 1) entries es) (sym (ap (λ m. m.entries) w.registry-is))
          (next_done IsAbandonedFrom entries now c.loop-at.at c.loop-at.invariant w.in-Some.view.now _ w.in-Some.ensures.value (record { rests = w.abandon.ensures.rests; one = w.abandon.ensures.one }))
      | in_default w ↦ subst (λ (es : Registry). FirstDone IsAbandonedFrom (c.loop-at.at + 1) entries es) (sym (ap (λ m. m.entries) w.registry-is))
          (no_more IsAbandonedFrom entries now c.loop-at.at c.loop-at.invariant w.in_default.ensures.value)
    ]

pub returns-clause-rest : goal.returns-clause-rest
returns-clause-rest c = λ graph last all.
    let entries = c.args.registry.now.entries in
    let related = all_done IsAbandonedFrom entries c.loop-at.registry.entries c.loop-at.at (omega (arith, c.len-at-end.ensures.len)) c.loop-at.invariant in
    related_hold IsAbandonedFrom (λ view. CanRest view graph last) (λ view. Rests view graph last) (λ view next can abandoned. abandoned.rests graph last can) entries c.loop-at.registry.entries related all

pub returns-clause-held : goal.returns-clause-held
returns-clause-held c = same_held IsAbandonedFrom (λ view next abandoned. abandoned.one) c.args.registry.now.entries c.loop-at.registry.entries c.loop-at.at c.loop-at.invariant
