use Rattle.std.proofs.Common.{sym, ◌∙◌}
use Rattle.cy_trees.specs.Trees.{Expression, Projection}
use Rattle.cy_trees.specs.TreeModels.{expression_of, filter_of, projection_of}
use Rattle.cy_planner_algebra.specs.Plans.{Plan}
use Rattle.cy_planner_algebra.specs.PlanModels.{plan_of}
use Rattle.cy_planner_rows.specs.Rows.{IsFiltered}
use Rattle.cy_planner_rows.proofs.Filtered.{if_ok_map}
use Rattle.cy_planner.specs.internal.Projections.{IsWith}
use Rattle.cy_planner.proofs.WithPlans.{with_alone, with_where}
use Rattle.cy_planner.proofs.projections.with_rows.Goals as goal

pub filter_low-requires : goal.filter_low-requires
filter_low-requires c =
    let over = rw c.in-Some.is at c.requires.test in
    (over.0, over.1 ∙ sym c.in_ok-made.ensures.as_wide, over.2)

pub returns-in-None : goal.returns-in-None
returns-in-None c =
    rw c.in-None.is (with_alone c.row_order_laws.ensures.total (plan_of c.args.below) (projection_of c.args.projection.now) (plan_of c.in_ok-made.made) c.in_ok-made.ensures)

pub returns-in-Some : goal.returns-in-Some
returns-in-Some c =
    let test : Expression = expression_of c.in-Some.test in
    let below : Plan = plan_of c.args.below in
    let p : Projection = projection_of c.args.projection.now in
    let made : Plan = plan_of c.in_ok-made.made in
    if_ok_map (λ q. IsFiltered made test (plan_of q)) (λ q. IsWith below p (filter_of c.args.filter.now) (plan_of q))
    (λ q filtered. rw c.in-Some.is (with_where c.row_order_laws.ensures.total below p made c.in_ok-made.ensures test (plan_of q) filtered))
    c.filter_low.result c.filter_low.ensures
