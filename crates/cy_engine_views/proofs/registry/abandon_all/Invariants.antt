use Rattle.cy_engine_views.proofs.Going.{FirstDone}
use Rattle.cy_engine_views.proofs.Steps.{IsAbandonedFrom}
use Rattle.cy_engine_views.proofs.registry.abandon_all.Given as goal

-- the views so far rest, and the others are as they were
abbrev pub invariant-loop-at : goal.invariant-loop-at
invariant-loop-at l = FirstDone IsAbandonedFrom l.at l.initial.registry.entries l.registry.entries
