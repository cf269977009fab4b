use Rattle.std.proofs.Common.{length, sym, ap, ◌∙◌}
use Rattle.cy_planner_algebra.specs.PlanModels.{plan_of}
use Rattle.cy_network_parts.proofs.Below.{count_below}
use Rattle.cy_network_parts.proofs.parts.below_count.Goals as goal

pub returns-in-None : goal.returns-in-None
returns-in-None c = ap length c.in-None.ensures.plans ∙ sym (count_below (plan_of c.args.part.now))

pub returns-in-One : goal.returns-in-One
returns-in-One c = ap length c.in-One.ensures.plans ∙ sym (count_below (plan_of c.args.part.now))

pub returns-in-Two : goal.returns-in-Two
returns-in-Two c = ap length c.in-Two.ensures.plans ∙ sym (count_below (plan_of c.args.part.now))
