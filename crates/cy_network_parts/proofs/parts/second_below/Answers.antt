use Rattle.std.proofs.Common.{◌-◌, length, get_or, sym, ap, ◌∙◌}
use Rattle.cy_planner_algebra.specs.PlanModels.{plan_of}
use Rattle.cy_network_parts.proofs.Below.{second_of}
use Rattle.cy_network_parts.proofs.parts.second_below.Goals as goal

pub returns-in-None : goal.returns-in-None
returns-in-None c = ap (λ ps. get_or ps (length ps - 1) (plan_of c.args.part.now)) c.in-None.ensures.plans ∙ sym (second_of (plan_of c.args.part.now))

pub returns-in-One : goal.returns-in-One
returns-in-One c = ap (λ ps. get_or ps (length ps - 1) (plan_of c.args.part.now)) c.in-One.ensures.plans ∙ sym (second_of (plan_of c.args.part.now))

pub returns-in-Two : goal.returns-in-Two
returns-in-Two c = ap (λ ps. get_or ps (length ps - 1) (plan_of c.args.part.now)) c.in-Two.ensures.plans ∙ sym (second_of (plan_of c.args.part.now))
