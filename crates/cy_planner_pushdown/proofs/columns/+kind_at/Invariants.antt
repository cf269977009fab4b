-- The column is that of one input after another.
use Rattle.std.proofs.Common.{◌≡◌, ◌≤◌}
use Rattle.cy_planner_algebra.specs.declared.operators.Operator.{size-Operator}
use Rattle.cy_planner_algebra.specs.Plans as plan
use Rattle.cy_planner_algebra.specs.PlanModels.{plan_of}
use Rattle.cy_planner_algebra.specs.WellFormed.{IsWellFormed}
use Rattle.cy_planner_pushdown.specs.internal.Pushed.{kind_at}
use Rattle.cy_planner_pushdown.proofs.columns.+kind_at.Given as goal

abbrev pub invariant-loop-part : goal.invariant-loop-part
invariant-loop-part l =
    IsWellFormed (plan_of l.part)
    × (l.width ≡ plan.width (plan_of l.part))
    × (kind_at (plan_of l.fn.part) l.fn.column ≡ kind_at (plan_of l.part) l.column)
    × (size-Operator l.part ≤ size-Operator l.fn.part)

abbrev pub decreases-loop-part : goal.decreases-loop-part
decreases-loop-part l = size-Operator l.part
