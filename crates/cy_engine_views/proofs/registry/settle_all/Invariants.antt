use Rattle.cy_engine_views.specs.internal.Loops.{IsSettledFrom}
use Rattle.cy_engine_views.proofs.Going.{FirstDone}
use Rattle.cy_engine_views.proofs.registry.settle_all.Given as goal

-- the views so far are settled, and the others as they were
abbrev pub invariant-loop-at : goal.invariant-loop-at
invariant-loop-at l = FirstDone (IsSettledFrom l.tick) l.at l.initial.registry.entries l.registry.entries
