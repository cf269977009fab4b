-- What is left above the plan so far can stand in place of all above the base.
use Rattle.std.proofs.Common.{vec_len}
use Rattle.cy_planner_algebra.specs.PlanModels.{plan_of}
use Rattle.cy_planner_rewriting.specs.internal.Above as standing
use Rattle.cy_planner_rewriting.specs.Rewritten.{IsRewritten}
use Rattle.cy_planner_rewriting.proofs.rewriting.put_over.Given as goal

abbrev pub invariant-loop-joint : goal.invariant-loop-joint
invariant-loop-joint l = IsRewritten (standing.put_over l.fn.above.items (plan_of l.fn.base)) (standing.put_over l.above.items (plan_of l.plan))

abbrev pub decreases-loop-joint : goal.decreases-loop-joint
decreases-loop-joint l = vec_len l.above
