use Rattle.std.proofs.Common.{rules, arith}
use Rattle.std.proofs.lemmas.Grind.{common_steps}
use Rattle.cy_trees.specs.Trees.{Statement}
use Rattle.cy_trees.specs.TreeModels.{statement_of}
use Rattle.cy_planner_algebra.specs.Plans.{Plan}
use Rattle.cy_planner_algebra.specs.PlanModels.{plan_of}
use Rattle.cy_planner.specs.internal.Standing.{StandsFor}
use Rattle.cy_planner.proofs.Congruent.{on_graphs, stands_again}
use Rattle.cy_planner.specs.Serves.{Serves}
use Rattle.cy_planner.proofs.Rewriting.{serves_standing}
use Rattle.cy_planner.proofs.plans.plan.Goals as goal

pub returns-clause-serves : goal.returns-clause-serves
returns-clause-serves c =
    let query : Statement = statement_of c.args.query.now in
    let p : Plan = plan_of c.in_ok-rows.rows in
    let serves : Serves p query = first_of (search rules, grind (arith, common_steps)) in
    let other : Plan = plan_of c.in_ok-rewritten.field-0 in
    let low : Plan = plan_of c.in_ok-plan.plan in
    let narrow : Plan = plan_of c.in_ok-narrowed.field-0 in
    let standing : StandsFor p low = stands_again p other low (on_graphs p other c.in_ok-rewritten.ensures) c.in_ok-plan.ensures in
    serves_standing p narrow query serves (stands_again p low narrow standing (on_graphs low narrow c.in_ok-narrowed.ensures))
