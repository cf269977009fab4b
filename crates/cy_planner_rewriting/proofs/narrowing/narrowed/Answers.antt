use Rattle.std.proofs.Common.{ap, subst}
use Rattle.std.proofs.lemmas.Result.{IfOk-weaker}
use Rattle.cy_planner_algebra.specs.Plans.{Plan}
use Rattle.cy_planner_algebra.specs.PlanModels.{plan_of}
use Rattle.cy_planner_rewriting.specs.Rewritten.{IsRewritten}
use Rattle.cy_planner_rewriting.proofs.Congruent.{rewritten_again}
use Rattle.cy_planner_rewriting.specs.internal.Narrows.{restored}
use Rattle.cy_planner_rewriting.proofs.narrowing.narrowed.Goals as goal

pub returns : goal.returns
returns c =
    let old : Plan = plan_of c.args.plan in
    let low : Plan = restored c.in_ok-narrow.narrow in
    let before : IsRewritten old low = subst (λ (o : Plan). IsRewritten o low) (ap plan_of c.into_root.ensures.same) c.in_ok-narrow.ensures in
    IfOk-weaker c.exact.result _ _ (λ p is. rewritten_again old low (plan_of p) before is) c.exact.ensures
