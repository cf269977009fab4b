use Rattle.std.proofs.Common.{◌≡◌, ◌≤◌, take}
use Rattle.std.specs.Prelude.{Some, fold}
use Rattle.cy_planner_algebra.specs.declared.operators.Operator.{size-Operator}
use Rattle.cy_planner_algebra.specs.Plans.{width}
use Rattle.cy_planner_algebra.specs.PlanModels.{plan_of}
use Rattle.cy_planner_algebra.specs.WellFormed.{IsWellFormed}
use Rattle.cy_network_relevance.specs.Lists.{most_named, together}
use Rattle.cy_network_relevance.proofs.at_most.+at_most.Given as goal

-- the cell in a column of what is left names as many at most as that of the part
abbrev pub invariant-most_below-loop-part : goal.invariant-most_below-loop-part
invariant-most_below-loop-part l =
    IsWellFormed (plan_of l.part)
    × (l.wide ≡ width (plan_of l.part))
    × (most_named (plan_of l.fn.part) l.fn.column ≡ most_named (plan_of l.part) l.column)
    × (size-Operator l.part ≤ size-Operator l.fn.part)

abbrev pub decreases-most_below-loop-part : goal.decreases-most_below-loop-part
decreases-most_below-loop-part l = size-Operator l.part

-- what the columns so far name at most
abbrev pub invariant-most_of_all-loop-column : goal.invariant-most_of_all-loop-column
invariant-most_of_all-loop-column l = l.found ≡ fold (λ so_far column. together so_far (most_named (plan_of l.below) column)) (Some 0) (take l.column-index l.columns)
