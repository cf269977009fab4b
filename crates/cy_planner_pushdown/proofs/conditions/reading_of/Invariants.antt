-- The variables so far stand in their columns.
use Rattle.std.proofs.Common.{◌≡◌, ◌+◌, map}
use Rattle.cy_planner_algebra.specs.PlanModels.{plan_of}
use Rattle.cy_planner_pushdown.specs.internal.Pushed.{StandIn}
use Rattle.cy_planner_pushdown.proofs.conditions.reading_of.Given as goal

abbrev pub invariant-loop-variable : goal.invariant-loop-variable
invariant-loop-variable l = record { stand : StandIn (plan_of l.below) l.columns.items l.scope; written : l.written.items ≡ map (λ c. l.before + c) l.columns.items }
