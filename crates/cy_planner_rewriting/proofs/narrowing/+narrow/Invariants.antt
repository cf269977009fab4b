-- The part stands below what was taken off the whole.
use Rattle.std.proofs.Common.{◌≤◌}
use Rattle.cy_planner_algebra.specs.declared.operators.Operator.{size-Operator}
use Rattle.cy_planner_algebra.specs.PlanModels.{plan_of}
use Rattle.cy_planner_rewriting.specs.internal.NarrowAbove.{StandsBelow}
use Rattle.cy_planner_rewriting.proofs.narrowing.+narrow.Given as goal

abbrev pub invariant-loop-plan : goal.invariant-loop-plan
invariant-loop-plan l = StandsBelow (plan_of l.fn.part) l.above.items (plan_of l.part) × (size-Operator l.part ≤ size-Operator l.fn.part)

abbrev pub decreases-loop-plan : goal.decreases-loop-plan
decreases-loop-plan l = size-Operator l.part

abbrev pub decreases-narrow : goal.decreases-narrow
decreases-narrow l = size-Operator l.part
