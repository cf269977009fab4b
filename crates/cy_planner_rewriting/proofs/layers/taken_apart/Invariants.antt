-- The layers and look-ups so far over what is left can stand in place of the plan.
use Rattle.std.proofs.Common.{◌≤◌}
use Rattle.cy_planner_algebra.specs.declared.operators.Operator.{size-Operator}
use Rattle.cy_planner_algebra.specs.PlanModels.{plan_of}
use Rattle.cy_planner_rows.specs.internal.Lookups.{over}
use Rattle.cy_planner_rewriting.specs.internal.Layers.{stacked}
use Rattle.cy_planner_rewriting.specs.Rewritten.{IsRewritten}
use Rattle.cy_planner_rewriting.proofs.layers.taken_apart.Given as goal

abbrev pub invariant-loop-layer : goal.invariant-loop-layer
invariant-loop-layer l = IsRewritten (over (plan_of l.fn.part) l.fn.lookups.items) (stacked l.layers.items l.pending.items (plan_of l.part)) × (size-Operator l.part ≤ size-Operator l.fn.part)

abbrev pub decreases-loop-layer : goal.decreases-loop-layer
decreases-loop-layer l = size-Operator l.part
