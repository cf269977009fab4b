-- The layers so far over what is left can stand in place of the plan.
use Rattle.std.proofs.Common.{◌≤◌}
use Rattle.cy_planner_algebra.specs.declared.operators.Operator.{size-Operator}
use Rattle.cy_planner_algebra.specs.PlanModels.{plan_of}
use Rattle.cy_planner_rewriting.specs.internal.Layers.{layered}
use Rattle.cy_planner_rewriting.specs.Rewritten.{IsRewritten}
use Rattle.cy_planner.proofs.outer_filters.bases.layers_of.Given as goal

abbrev pub invariant-loop-layer : goal.invariant-loop-layer
invariant-loop-layer l = IsRewritten (plan_of l.fn.part) (layered l.layers.items (plan_of l.part)) × (size-Operator l.part ≤ size-Operator l.fn.part)

abbrev pub decreases-loop-layer : goal.decreases-loop-layer
decreases-loop-layer l = size-Operator l.part
