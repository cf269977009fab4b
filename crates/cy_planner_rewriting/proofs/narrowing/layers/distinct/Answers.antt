use Rattle.std.proofs.lemmas.Result.{IfOk-weaker}
use Rattle.cy_planner_algebra.specs.Plans as plan
use Rattle.cy_planner_algebra.specs.Plans.{Plan}
use Rattle.cy_planner_algebra.specs.PlanModels.{plan_of}
use Rattle.cy_planner_rewriting.proofs.Congruent.{over_distinct}
use Rattle.cy_planner_rewriting.specs.internal.Narrows.{restored}
use Rattle.cy_planner_rewriting.proofs.Made.{made_again}
use Rattle.cy_planner_rewriting.proofs.narrowing.layers.distinct.Goals as goal

pub returns : goal.returns
returns c =
    let p : Plan = plan_of c.in_ok-below.below in
    let below : Plan = restored c.args.below in
    IfOk-weaker c.whole.result _ _
    (λ n is. made_again (plan.distinct below) (plan.distinct p) (plan_of c.in_ok-distinct.field-0) (restored n) (over_distinct below p c.in_ok-below.ensures) c.in_ok-distinct.ensures is) c.whole.ensures
