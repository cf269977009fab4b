use Rattle.std.proofs.lemmas.Result.{IfOk-weaker}
use Rattle.cy_planner_algebra.specs.Plans as plan
use Rattle.cy_planner_algebra.specs.Plans.{Plan}
use Rattle.cy_planner_algebra.specs.PlanModels.{plan_of}
use Rattle.cy_planner_rewriting.proofs.Congruent.{over_semi}
use Rattle.cy_planner_rewriting.specs.internal.Narrows.{restored}
use Rattle.cy_planner_rewriting.proofs.Made.{made_again}
use Rattle.cy_planner_rewriting.proofs.narrowing.joints.semi_joined.Goals as goal

pub returns : goal.returns
returns c =
    let p : Plan = plan_of c.in_ok-left.left in
    let q : Plan = plan_of c.in_ok-right.right in
    let left : Plan = restored c.args.left in
    let right : Plan = restored c.args.right in
    let low : Plan = plan.semi p q c.args.keys.items c.args.keeping in
    IfOk-weaker c.whole.result _ _
    (λ n is. made_again (plan.semi left right c.args.keys.items c.args.keeping) low (plan_of c.in_ok-semi.field-0) (restored n) (over_semi left right p q c.in_ok-left.ensures c.in_ok-right.ensures c.args.keys.items c.args.keeping) c.in_ok-semi.ensures is) c.whole.ensures
