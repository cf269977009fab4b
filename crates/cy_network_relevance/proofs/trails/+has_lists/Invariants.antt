use Rattle.std.proofs.Common.{◌≡◌, ◌≤◌}
use Rattle.cy_planner_algebra.specs.declared.operators.Operator.{size-Operator}
use Rattle.cy_planner_algebra.specs.PlanModels.{plan_of}
use Rattle.cy_network_relevance.specs.Trails.{has_lists}
use Rattle.cy_network_relevance.proofs.trails.+has_lists.Given as goal

-- the part has them where what is left does
abbrev pub invariant-loop-part : goal.invariant-loop-part
invariant-loop-part l = (has_lists (plan_of l.fn.part) ≡ has_lists (plan_of l.part)) × (size-Operator l.part ≤ size-Operator l.fn.part)

abbrev pub decreases-loop-part : goal.decreases-loop-part
decreases-loop-part l = size-Operator l.part
