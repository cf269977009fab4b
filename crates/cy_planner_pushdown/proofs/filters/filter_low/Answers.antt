use Rattle.std.proofs.Common.{◌≡◌, List, map, ap, subst, ◌∙◌}
use Rattle.std.proofs.lemmas.Result.{IfOk-weaker}
use Rattle.cy_trees.specs.Trees.{Expression}
use Rattle.cy_trees.specs.TreeModels.{expression_of}
use Rattle.cy_planner_algebra.specs.Plans.{Plan}
use Rattle.cy_planner_algebra.specs.PlanModels.{plan_of}
use Rattle.cy_planner_rows.specs.internal.Conjuncts.{conjuncts}
use Rattle.cy_planner_pushdown.specs.After.{AreKept}
use Rattle.cy_planner_pushdown.proofs.Finding.{all_asked, left_to_ask, read_rest}
use Rattle.cy_planner_pushdown.proofs.filters.filter_low.Goals as goal

pub filter_rest-requires : goal.filter_rest-requires
filter_rest-requires c =
    let test : Expression = expression_of c.args.test.now in
    let all : map expression_of c.in_ok-tests.tests.items ≡ conjuncts test = c.in_ok-tests.ensures ∙ ap conjuncts c.in_ok-copy.ensures in
    let is : AreKept 0 (plan_of c.args.below) (conjuncts test) (map expression_of c.in_ok-kept.kept.rest.items) (plan_of c.in_ok-kept.kept.plan) =
    subst (λ (es : List Expression). AreKept 0 (plan_of c.args.below) es (map expression_of c.in_ok-kept.kept.rest.items) (plan_of c.in_ok-kept.kept.plan)) all c.in_ok-kept.ensures in
    read_rest 0 (plan_of c.args.below) test (map expression_of c.in_ok-kept.kept.rest.items) (plan_of c.in_ok-kept.kept.plan) is c.requires

pub returns : goal.returns
returns c =
    let below : Plan = plan_of c.args.below in
    let between : Plan = plan_of c.in_ok-kept.kept.plan in
    let rest : List Expression = map expression_of c.in_ok-kept.kept.rest.items in
    let test : Expression = expression_of c.args.test.now in
    let all : map expression_of c.in_ok-tests.tests.items ≡ conjuncts test = c.in_ok-tests.ensures ∙ ap conjuncts c.in_ok-copy.ensures in
    let is : AreKept 0 below (conjuncts test) rest between = subst (λ (es : List Expression). AreKept 0 below es rest between) all c.in_ok-kept.ensures in
    IfOk-weaker c.filter_rest.result _ _ (λ p asked. all_asked below test (conjuncts test) (λ i. conjuncts test) (plan_of p) (asked below (conjuncts test) (left_to_ask below (conjuncts test) rest between is))) c.filter_rest.ensures
