use Rattle.std.proofs.Common.{◌≡◌, map}
use Rattle.cy_planner_algebra.specs.declared.operators.Operator.{size-Operator}
use Rattle.cy_planner_algebra.specs.PlanModels.{output_of, plan_of}
use Rattle.cy_planner_algebra.specs.WellFormed.{IsWellFormed}
use Rattle.cy_network_relevance.specs.Trails.{tells_joins}
use Rattle.cy_network_relevance.proofs.trails.tells_joins.Given as goal

-- the rows of the part are told apart where those of what is left are
abbrev pub invariant-loop-part : goal.invariant-loop-part
invariant-loop-part l = IsWellFormed (plan_of l.part) × (tells_joins (plan_of l.fn.part) (map output_of l.outputs) ≡ tells_joins (plan_of l.part) (map output_of l.outputs))

abbrev pub decreases-loop-part : goal.decreases-loop-part
decreases-loop-part l = size-Operator l.part
