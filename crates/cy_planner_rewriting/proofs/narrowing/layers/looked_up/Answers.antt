use Rattle.std.proofs.Common.{◌≡◌, ℕ, List, [], ◌∷◌, ◌++◌, sym, ap, subst, ◌∙◌}
use Rattle.cy_planner_algebra.specs.Plans.{Plan, width}
use Rattle.cy_planner_algebra.specs.PlanModels.{plan_of}
use Rattle.cy_planner_algebra.specs.WellFormed.{IsColumn}
use Rattle.cy_planner_rows.specs.Renumbered.{new_column}
use Rattle.cy_planner_rewriting.specs.internal.Narrows.{restored}
use Rattle.cy_planner_rewriting.proofs.Made.{column_there, looked_as, place_there}
use Rattle.cy_planner_rewriting.proofs.Ranking.{there_any}
use Rattle.cy_planner_rewriting.proofs.narrowing.layers.looked_up.Goals as goal

pub lookup-requires-clause-column : goal.lookup-requires-clause-column
lookup-requires-clause-column c =
    let old : Plan = restored c.args.below in
    let p : Plan = plan_of c.in_ok-plan.field-0.plan in
    let columns : List ℕ = c.in_ok-plan.field-0.columns.items in
    let at : c.index-place.result.now ≡ new_column columns c.args.column =
    c.index-place.ensures ∙ there_any columns c.args.column c.index-place.result.now c.args.column (column_there old p columns c.args.column c.args.attribute c.requires c.in_ok-plan.ensures.same c.in_ok-plan.ensures.few) in
    subst (λ (n : ℕ). IsColumn (width p) n) (sym at) (place_there old p columns c.args.column c.args.attribute c.requires c.in_ok-plan.ensures.same c.in_ok-plan.ensures.few)

pub returns : goal.returns
returns c =
    let old : Plan = restored c.args.below in
    let p : Plan = plan_of c.in_ok-plan.field-0.plan in
    let columns : List ℕ = c.in_ok-plan.field-0.columns.items in
    let at : c.index-place.result.now ≡ new_column columns c.args.column =
    c.index-place.ensures ∙ there_any columns c.args.column c.index-place.result.now c.args.column (column_there old p columns c.args.column c.args.attribute c.requires c.in_ok-plan.ensures.same c.in_ok-plan.ensures.few) in
    looked_as old p columns c.args.column c.args.attribute c.requires c.in_ok-plan.ensures.same c.in_ok-plan.ensures.few c.index-place.result.now c.push.new.self.items (plan_of c.in_ok-plan-2.plan) at
    (c.in_ok-push.ensures.items ∙ ap (λ (n : ℕ). columns ++ n ∷ []) c.width.ensures.width) c.in_ok-plan-2.ensures
