use Rattle.std.proofs.Common.{◌≡◌, ℕ, rules, List, arith}
use Rattle.std.proofs.lemmas.Grind.{common_steps}
use Rattle.cy_trees.specs.TreeModels.{expression_of}
use Rattle.cy_planner_algebra.specs.PlanModels.{plan_of}
use Rattle.cy_planner_rows.specs.Renumbered.{renumbered}
use Rattle.cy_planner_rewriting.proofs.Made.{filter_over, filtered_as}
use Rattle.cy_planner_rewriting.proofs.narrowing.layers.filtered.Goals as goal

pub filter-requires : goal.filter-requires
filter-requires c =
    let columns : List ℕ = c.args.below.columns.items in
    let made : expression_of c.in_ok-test.test ≡ renumbered columns (expression_of c.args.test) = first_of (search rules, grind (arith, common_steps)) in
    filter_over (plan_of c.args.below.plan) columns (expression_of c.args.test) (expression_of c.in_ok-test.test) c.requires made

pub returns : goal.returns
returns c =
    let columns : List ℕ = c.args.below.columns.items in
    let made : expression_of c.in_ok-test.test ≡ renumbered columns (expression_of c.args.test) = first_of (search rules, grind (arith, common_steps)) in
    filtered_as (plan_of c.args.below.plan) columns (expression_of c.args.test) (expression_of c.in_ok-test.test) c.requires made (plan_of c.in_ok-plan.plan) c.in_ok-plan.ensures
