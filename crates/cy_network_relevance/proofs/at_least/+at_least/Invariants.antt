use Rattle.std.proofs.Common.{◌≡◌, ◌≤◌, min, take}
use Rattle.std.specs.Prelude.{sum_by}
use Rattle.cy_planner_algebra.specs.declared.operators.Operator.{size-Operator}
use Rattle.cy_planner_algebra.specs.Plans.{width}
use Rattle.cy_planner_algebra.specs.PlanModels.{plan_of}
use Rattle.cy_planner_algebra.specs.WellFormed.{IsWellFormed}
use Rattle.cy_network_relevance.specs.Lists.{least_named}
use Rattle.cy_network_relevance.proofs.at_least.+at_least.Given as goal

-- the cell in a column of what is left names as many at least as that of the part
abbrev pub invariant-least_below-loop-part : goal.invariant-least_below-loop-part
invariant-least_below-loop-part l =
    IsWellFormed (plan_of l.part)
    × (l.wide ≡ width (plan_of l.part))
    × (least_named (plan_of l.fn.part) l.fn.column ≡ least_named (plan_of l.part) l.column)
    × (size-Operator l.part ≤ size-Operator l.fn.part)

abbrev pub decreases-least_below-loop-part : goal.decreases-least_below-loop-part
decreases-least_below-loop-part l = size-Operator l.part

-- what the columns so far name at least
abbrev pub invariant-least_of_all-loop-column : goal.invariant-least_of_all-loop-column
invariant-least_of_all-loop-column l = l.found ≡ min l.enough (sum_by (least_named (plan_of l.below)) (take l.column-index l.columns))
