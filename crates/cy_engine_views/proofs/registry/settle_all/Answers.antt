use Rattle.std.proofs.Common.{◌+◌, sym, ap, subst, arith}
use Rattle.cy_engine_views.specs.Upkeep.{Registry}
use Rattle.cy_engine_views.specs.internal.Loops.{IsSettledFrom, Takes}
use Rattle.cy_engine_views.proofs.Going.{FirstDone, all_done, next_done, next_is, no_more, none_done}
use Rattle.cy_engine_views.proofs.registry.settle_all.Goals as goal
use Rattle.cy_engine_views.proofs.registry.settle_all.Goals.{in-Some, in_default}

pub loop-at-init : goal.loop-at-init
loop-at-init c = none_done (IsSettledFrom c.args.tick) c.args.registry.now.entries

pub settle-requires : goal.settle-requires
settle-requires c =
    next_is (IsSettledFrom c.args.tick) (Takes c.args.tick) c.args.registry.now.entries c.loop-at.registry.entries c.loop-at.at c.loop-at.invariant c.in-Some.view.now c.in-Some.ensures.value c.requires

pub loop-at-preserved : goal.loop-at-preserved
loop-at-preserved c =
    let R = IsSettledFrom c.args.tick in
    let entries = c.args.registry.now.entries in
    let now = c.loop-at.registry.entries in
    elim c.match-get_index_mut.branch [
      | in-Some w ↦ subst (λ (es : Registry). FirstDone R (c.loop-at.at + 1) entries es) (sym (ap (λ m. m.entries) w.registry-is))
          (next_done R entries now c.loop-at.at c.loop-at.invariant w.in-Some.view.now _ w.in-Some.ensures.value w.settle.ensures)
      | in_default w ↦ subst (λ (es : Registry). FirstDone R (c.loop-at.at + 1) entries es) (sym (ap (λ m. m.entries) w.registry-is))
          (no_more R entries now c.loop-at.at c.loop-at.invariant w.in_default.ensures.value)
    ]

pub returns : goal.returns
returns c = all_done (IsSettledFrom c.args.tick) c.args.registry.now.entries c.loop-at.registry.entries c.loop-at.at (omega (arith, c.len-at-end.ensures.len)) c.loop-at.invariant
