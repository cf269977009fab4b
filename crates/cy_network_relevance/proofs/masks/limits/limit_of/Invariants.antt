use Rattle.cy_planner_algebra.specs.declared.operators.Operator.{size-Operator}
use Rattle.cy_planner_algebra.specs.PlanModels.{plan_of}
use Rattle.cy_network_relevance.specs.declared.masks.Mask.{Mask}
use Rattle.cy_network_relevance.specs.internal.Left.{IsLimited}
use Rattle.cy_network_relevance.proofs.masks.limits.limit_of.Given as goal

-- what limits the part that is left limits the whole
abbrev pub invariant-loop-part : goal.invariant-loop-part
invariant-loop-part l = (mask : Mask) → IsLimited mask (plan_of l.part) → IsLimited mask (plan_of l.fn.part)

abbrev pub decreases-loop-part : goal.decreases-loop-part
decreases-loop-part l = size-Operator l.part
