use Rattle.std.proofs.Common.{List, ℕ, sym, ap, subst, ◌∙◌}
use Rattle.cy_trees.specs.Trees.{Expression}
use Rattle.cy_trees.specs.TreeModels.{expression_of}
use Rattle.cy_planner_algebra.specs.Plans.{Plan}
use Rattle.cy_planner_algebra.specs.PlanModels.{plan_of}
use Rattle.cy_planner_rows.specs.Renumbered.{renumbered}
use Rattle.cy_planner_rows.specs.Rows.{IsReadOver}
use Rattle.cy_planner_rows.specs.internal.Filters.{IsLookedUpFilter}
use Rattle.cy_planner_rows.proofs.Filtered.{if_ok_map, well_kept}
use Rattle.cy_planner_pushdown.specs.internal.Pushed.{IsPushed}
use Rattle.cy_planner_pushdown.proofs.SiftedRows.{sifted}
use Rattle.cy_planner_pushdown.proofs.Spread.{read_over}
use Rattle.cy_planner_pushdown.proofs.sifting.filter_in_place.Goals as goal

pub looked_up_filter-requires : goal.looked_up_filter-requires
looked_up_filter-requires c = λ well.
    subst (IsReadOver (plan_of c.args.below)) (sym (c.in_ok-asked.ensures ∙ ap (λ cs. renumbered cs (expression_of c.args.test.test)) c.deref.ensures.value)) (read_over (plan_of c.args.below) c.args.test.columns.items (expression_of c.args.test.test) well c.requires)

pub returns : goal.returns
returns c =
    let below : Plan = plan_of c.args.below in
    let columns : List ℕ = c.args.test.columns.items in
    let tested : Expression = expression_of c.args.test.test in
    let test : Expression = renumbered columns tested in
    if_ok_map (λ p. IsLookedUpFilter below (expression_of c.in_ok-asked.asked) (plan_of p)) (λ p. IsPushed below columns tested (plan_of p))
    (λ p looked.
    let made = subst (λ (e : Expression). IsLookedUpFilter below e (plan_of p)) (c.in_ok-asked.ensures ∙ ap (λ cs. renumbered cs tested) c.deref.ensures.value) looked in
    let read : IsReadOver below test = read_over below columns tested made.well_formed c.requires in
    subst (λ (q : Plan). IsPushed below columns tested q) (sym made.is)
    (sifted below columns tested made.well_formed c.requires made.room (well_kept below test made.well_formed made.room read)))
    c.looked_up_filter.result c.looked_up_filter.ensures
