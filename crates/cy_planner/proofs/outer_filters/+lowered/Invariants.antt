-- What stands for the part stands, below what stands above it, for the whole.
use Rattle.std.proofs.Common.{◌≤◌}
use Rattle.cy_planner_algebra.specs.declared.operators.Operator.{size-Operator}
use Rattle.cy_planner_algebra.specs.PlanModels.{plan_of}
use Rattle.cy_planner.specs.internal.OuterAbove.{StandsBelowOuters}
use Rattle.cy_planner.proofs.outer_filters.+lowered.Given as goal

abbrev pub invariant-loop-above : goal.invariant-loop-above
invariant-loop-above l = StandsBelowOuters (plan_of l.fn.part) l.above.items (plan_of l.part) × (size-Operator l.part ≤ size-Operator l.fn.part)

abbrev pub decreases-loop-above : goal.decreases-loop-above
decreases-loop-above l = size-Operator l.part
