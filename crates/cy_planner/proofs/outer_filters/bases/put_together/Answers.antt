use Rattle.std.proofs.Common.{sym}
use Rattle.std.proofs.lemmas.Result.{IfOk-weaker}
use Rattle.cy_planner_algebra.specs.Plans.{Plan}
use Rattle.cy_planner_algebra.specs.PlanModels.{plan_of}
use Rattle.cy_planner_rewriting.specs.internal.Opened.{together}
use Rattle.cy_planner.proofs.Congruent.{equal_plans}
use Rattle.cy_planner.proofs.outer_filters.bases.put_together.Goals as goal

pub returns-in_default : goal.returns-in_default
returns-in_default c =
    let left : Plan = plan_of c.args.left in
    let right : Plan = plan_of c.args.right in
    IfOk-weaker c.joined.result _ _ (λ p is. equal_plans (together c.args.joint left right) (plan_of p) (sym is)) c.joined.ensures
