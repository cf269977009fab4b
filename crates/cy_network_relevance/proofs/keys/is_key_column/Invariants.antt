use Rattle.std.proofs.Common.{◌≡◌}
use Rattle.cy_planner_algebra.specs.declared.operators.Operator.{size-Operator}
use Rattle.cy_planner_algebra.specs.PlanModels.{plan_of}
use Rattle.cy_planner_algebra.specs.WellFormed.{IsWellFormed}
use Rattle.cy_network_relevance.specs.Trails.{is_key_column}
use Rattle.cy_network_relevance.proofs.keys.is_key_column.Given as goal

-- the column is one of the part's key where that of what is left is one of its key
abbrev pub invariant-loop-part : goal.invariant-loop-part
invariant-loop-part l = IsWellFormed (plan_of l.part) × (is_key_column (plan_of l.fn.part) l.fn.column ≡ is_key_column (plan_of l.part) l.column)

abbrev pub decreases-loop-part : goal.decreases-loop-part
decreases-loop-part l = size-Operator l.part
