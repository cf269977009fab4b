use Rattle.std.proofs.Common.{◌≤◌}
use Rattle.cy_planner_algebra.specs.declared.operators.Operator.{size-Operator}
use Rattle.cy_planner_algebra.specs.PlanModels.{plan_of}
use Rattle.cy_network_relevance.proofs.MaskWalk.{Leads}
use Rattle.cy_network_relevance.proofs.masks.plans.+parts_mask.Given as goal

-- what is known of the part that is left leads to what is known of the whole
abbrev pub invariant-loop-part : goal.invariant-loop-part
invariant-loop-part l = record {
  leads : Leads l.mask (plan_of l.part) (plan_of l.fn.part);
  less : size-Operator l.part ≤ size-Operator l.fn.part;
}

abbrev pub decreases-loop-part : goal.decreases-loop-part
decreases-loop-part l = size-Operator l.part
