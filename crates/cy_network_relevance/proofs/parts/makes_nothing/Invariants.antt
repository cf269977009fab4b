use Rattle.cy_planner_algebra.specs.declared.operators.Operator.{size-Operator}
use Rattle.cy_planner_algebra.specs.PlanModels.{plan_of}
use Rattle.cy_network_relevance.specs.internal.Kept.{IsAbsent}
use Rattle.cy_network_relevance.proofs.parts.makes_nothing.Given as goal

-- the part makes nothing where what is left does not
abbrev pub invariant-loop-part : goal.invariant-loop-part
invariant-loop-part l = IsAbsent l.entity (plan_of l.part) → IsAbsent l.entity (plan_of l.fn.part)

abbrev pub decreases-loop-part : goal.decreases-loop-part
decreases-loop-part l = size-Operator l.part
