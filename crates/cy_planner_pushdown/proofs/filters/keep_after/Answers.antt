use Rattle.std.proofs.Common.{ℕ, List, map, subst}
use Rattle.cy_trees.specs.Trees.{Expression}
use Rattle.cy_trees.specs.TreeModels.{expression_of}
use Rattle.cy_planner_algebra.specs.Plans.{Plan}
use Rattle.cy_planner_algebra.specs.PlanModels.{plan_of}
use Rattle.cy_planner_pushdown.specs.internal.Pushed.{IsSifted}
use Rattle.cy_planner_pushdown.specs.internal.Tests.{are_true, tests_of}
use Rattle.cy_planner_pushdown.proofs.Finding.{kept}
use Rattle.cy_planner_pushdown.proofs.filters.keep_after.Goals as goal

pub returns : goal.returns
returns c =
    let below : Plan = plan_of c.args.below in
    let made : Plan = plan_of c.in_ok-plan.plan in
    let found : List (List ℕ × Expression) = tests_of c.in_ok-tests.field-0.tests.items in
    let put : IsSifted below (are_true found) made =
    subst (λ q. IsSifted (plan_of q) (are_true found) made) c.of.ensures.part
    (subst (λ ts. IsSifted (plan_of c.of.result.part) (are_true (tests_of ts.items)) made) c.of.ensures.tests c.in_ok-plan.ensures) in
    kept c.args.before below (map expression_of c.args.tests.items) found (map expression_of c.in_ok-tests.field-0.rest.items) c.in_ok-tests.ensures made put
