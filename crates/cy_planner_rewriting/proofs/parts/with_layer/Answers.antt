use Rattle.std.proofs.Common.{sym, ap, ◌∙◌}
use Rattle.std.proofs.lemmas.Result.{IfOk-weaker}
use Rattle.cy_planner_algebra.specs.Plans.{Plan}
use Rattle.cy_planner_algebra.specs.PlanModels.{plan_of}
use Rattle.cy_planner_rewriting.specs.internal.Opened.{over_layer}
use Rattle.cy_planner_rewriting.proofs.Congruent.{equal_plans}
use Rattle.cy_planner_rewriting.proofs.parts.with_layer.Goals as goal

pub returns-in-Lookup : goal.returns-in-Lookup
returns-in-Lookup c =
    let below : Plan = plan_of c.args.below in
    IfOk-weaker c.lookup.result _ _ (λ p is. equal_plans (over_layer c.args.layer below) (plan_of p) (ap (λ l. over_layer l below) c.in-Lookup.is ∙ sym is)) c.lookup.ensures

pub returns-in-Filter : goal.returns-in-Filter
returns-in-Filter c =
    let below : Plan = plan_of c.args.below in
    IfOk-weaker c.filter.result _ _ (λ p is. equal_plans (over_layer c.args.layer below) (plan_of p) (ap (λ l. over_layer l below) c.in-Filter.is ∙ sym is)) c.filter.ensures

pub returns-in-AllDifferent : goal.returns-in-AllDifferent
returns-in-AllDifferent c =
    let below : Plan = plan_of c.args.below in
    IfOk-weaker c.all_different.result _ _ (λ p is. equal_plans (over_layer c.args.layer below) (plan_of p) (ap (λ l. over_layer l below) c.in-AllDifferent.is ∙ sym is)) c.all_different.ensures

pub returns-in-Distinct : goal.returns-in-Distinct
returns-in-Distinct c =
    let below : Plan = plan_of c.args.below in
    IfOk-weaker c.distinct.result _ _ (λ p is. equal_plans (over_layer c.args.layer below) (plan_of p) (ap (λ l. over_layer l below) c.in-Distinct.is ∙ sym is)) c.distinct.ensures
