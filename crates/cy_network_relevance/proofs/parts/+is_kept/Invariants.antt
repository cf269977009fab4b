use Rattle.std.proofs.Common.{◌≤◌}
use Rattle.cy_planner_algebra.specs.declared.operators.Operator.{size-Operator}
use Rattle.cy_planner_algebra.specs.PlanModels.{plan_of}
use Rattle.cy_network_relevance.specs.internal.Kept.{IsUnchanged}
use Rattle.cy_network_relevance.proofs.parts.+is_kept.Given as goal

-- the part is unchanged where what is left is
abbrev pub invariant-loop-part : goal.invariant-loop-part
invariant-loop-part l = (IsUnchanged l.entity (plan_of l.part) → IsUnchanged l.entity (plan_of l.fn.part)) × (size-Operator l.part ≤ size-Operator l.fn.part)

abbrev pub decreases-loop-part : goal.decreases-loop-part
decreases-loop-part l = size-Operator l.part
