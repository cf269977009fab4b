use Rattle.cy_planner_algebra.specs.PlanModels.{plan_of}
use Rattle.std.proofs.lemmas.Result.{IfOk-weaker}
use Rattle.cy_planner_pushdown.specs.internal.Tests.{tests_of}
use Rattle.cy_planner_pushdown.proofs.Putting.{put_divided}
use Rattle.cy_planner_pushdown.proofs.Stepping.{can_alike}
use Rattle.cy_planner_pushdown.proofs.sifting.filter_all.Goals as goal

pub filter_each-requires : goal.filter_each-requires
filter_each-requires c = (c.in_ok-asked.ensures.can (plan_of c.args.below) c.requires).2

pub filter_at_ends-requires : goal.filter_at_ends-requires
filter_at_ends-requires c = can_alike (plan_of c.args.below) (plan_of c.in_ok-plan.plan) c.in_ok-plan.ensures.kinds (tests_of c.in_ok-asked.field-0.asked.items) (c.in_ok-asked.ensures.can (plan_of c.args.below) c.requires).1

pub returns : goal.returns
returns c =
    IfOk-weaker c.filter_at_ends.result _ _
    (λ p is. put_divided (plan_of c.args.below) (tests_of c.args.tests.items) (tests_of c.in_ok-asked.field-0.asked.items) (tests_of c.in_ok-asked.field-0.others.items) c.in_ok-asked.ensures (plan_of c.in_ok-plan.plan) (plan_of p) c.in_ok-plan.ensures is)
    c.filter_at_ends.ensures
