use Rattle.std.proofs.Common.{sym, subst}
use Rattle.cy_trees.specs.Trees.{Expression}
use Rattle.cy_trees.specs.TreeModels.{expression_of}
use Rattle.cy_planner_algebra.specs.Plans.{Plan}
use Rattle.cy_planner_algebra.specs.PlanModels.{plan_of}
use Rattle.cy_planner_rows.specs.Rows.{IsFiltered}
use Rattle.cy_planner_rows.specs.internal.Filters.{IsLookedUpFilter}
use Rattle.cy_planner_rows.proofs.Filtered.{filtered, if_ok_map, well_kept}
use Rattle.cy_planner_rows.proofs.filters.filter_where.Goals as goal

pub returns : goal.returns
returns c =
    let below : Plan = plan_of c.args.below in
    let test : Expression = expression_of c.args.test.now in
    if_ok_map (λ p. IsLookedUpFilter below test (plan_of p)) (λ p. IsFiltered below test (plan_of p))
    (λ p made. subst (IsFiltered below test) (sym made.is) (filtered below test made.well_formed made.room c.requires (well_kept below test made.well_formed made.room c.requires)))
    c.looked_up_filter.result c.looked_up_filter.ensures

pub looked_up_filter-requires : goal.looked_up_filter-requires
looked_up_filter-requires c = λ well. c.requires
