use Rattle.std.proofs.Common.{◌≡◌, ◌≤◌}
use Rattle.cy_planner_algebra.specs.declared.operators.Operator.{size-Operator}
use Rattle.cy_planner_algebra.specs.PlanModels.{plan_of}
use Rattle.cy_planner_algebra.specs.WellFormed.{IsWellFormed}
use Rattle.cy_network_relevance.specs.Trails.{has_key}
use Rattle.cy_network_relevance.proofs.keys.+has_key.Given as goal

-- the part has a key where what is left does
abbrev pub invariant-loop-part : goal.invariant-loop-part
invariant-loop-part l = IsWellFormed (plan_of l.part) × (has_key (plan_of l.fn.part) ≡ has_key (plan_of l.part)) × (size-Operator l.part ≤ size-Operator l.fn.part)

abbrev pub decreases-loop-part : goal.decreases-loop-part
decreases-loop-part l = size-Operator l.part
