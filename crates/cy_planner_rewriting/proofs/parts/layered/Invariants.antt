-- The layers that are left over the plan so far can stand in place of all layers over the base.
use Rattle.std.proofs.Common.{vec_len}
use Rattle.cy_planner_algebra.specs.PlanModels.{plan_of}
use Rattle.cy_planner_rewriting.specs.internal.Layers.{layered}
use Rattle.cy_planner_rewriting.specs.Rewritten.{IsRewritten}
use Rattle.cy_planner_rewriting.proofs.parts.layered.Given as goal

abbrev pub invariant-loop-layer : goal.invariant-loop-layer
invariant-loop-layer l = IsRewritten (layered l.fn.layers.items (plan_of l.fn.base)) (layered l.layers.items (plan_of l.plan))

abbrev pub decreases-loop-layer : goal.decreases-loop-layer
decreases-loop-layer l = vec_len l.layers
