use Rattle.std.proofs.Common.{List, map, subst}
use Rattle.cy_trees.specs.Trees.{Expression}
use Rattle.cy_trees.specs.TreeModels.{expression_of}
use Rattle.cy_planner_algebra.specs.Plans.{Plan}
use Rattle.cy_planner_algebra.specs.PlanModels.{plan_of}
use Rattle.cy_planner_rows.specs.internal.Conjuncts.{conjuncts}
use Rattle.cy_planner_pushdown.specs.After.{AreKept}
use Rattle.cy_planner.proofs.Predicates.{left_split}
use Rattle.cy_planner.proofs.outer_filters.splitting.taken_apart.Goals as goal

pub returns : goal.returns
returns c =
    let right : Plan = plan_of c.args.right in
    let test : Expression = expression_of c.args.test in
    let rest = c.in_ok-plan.field-0.rest.items in
    let made : Plan = plan_of c.in_ok-plan.field-0.plan in
    let kept : AreKept c.args.before right (conjuncts test) (map expression_of rest) made =
    subst (λ (es : List Expression). AreKept c.args.before right es (map expression_of rest) made) c.in_ok-tests.ensures c.in_ok-plan.ensures in
    left_split c.args.before right test rest made kept c.in_ok-rest.rest c.in_ok-rest.ensures
