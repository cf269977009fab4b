-- What is left above the plan so far stands for all above the base.
use Rattle.std.proofs.Common.{vec_len}
use Rattle.cy_planner_algebra.specs.PlanModels.{plan_of}
use Rattle.cy_planner.specs.internal.Standing.{StandsFor}
use Rattle.cy_planner.specs.internal.OuterAbove as spec
use Rattle.cy_planner.proofs.outer_filters.put_outer_over.Given as goal

abbrev pub invariant-loop-joint : goal.invariant-loop-joint
invariant-loop-joint l = StandsFor (spec.put_outer_over l.fn.above.items (plan_of l.fn.base)) (spec.put_outer_over l.above.items (plan_of l.plan))

abbrev pub decreases-loop-joint : goal.decreases-loop-joint
decreases-loop-joint l = vec_len l.above
