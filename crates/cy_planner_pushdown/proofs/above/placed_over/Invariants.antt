-- What is left over the plan so far is all over the plan below.
use Rattle.std.proofs.Common.{◌≡◌, vec_len}
use Rattle.cy_planner_algebra.specs.PlanModels.{plan_of}
use Rattle.cy_planner_pushdown.specs.internal.Above as spec
use Rattle.cy_planner_pushdown.proofs.above.placed_over.Given as goal

abbrev pub invariant-loop-part : goal.invariant-loop-part
invariant-loop-part l = spec.placed_over l.above.items (plan_of l.plan) ≡ spec.placed_over l.fn.above.items (plan_of l.fn.below)

abbrev pub decreases-loop-part : goal.decreases-loop-part
decreases-loop-part l = vec_len l.above
