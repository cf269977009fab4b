use Rattle.std.proofs.Common.{◌≡◌, ℕ, ◌<◌, List, map, sym, ap, subst, ◌∙◌}
use Rattle.std.specs.List.{All, AllByRecursion}
use Rattle.cy_planner_algebra.specs.Plans as plan
use Rattle.cy_planner_algebra.specs.Plans.{Output, Plan, width}
use Rattle.cy_planner_algebra.specs.PlanModels.{output_of, plan_of}
use Rattle.cy_planner_algebra.specs.WellFormed.{IsOutputOver}
use Rattle.cy_planner_rows.specs.Columns.{column_output}
use Rattle.cy_planner_rewriting.specs.internal.Ranks.{AreRanked}
use Rattle.cy_planner_rewriting.proofs.NarrowColumns.{taken_inside}
use Rattle.cy_planner_rewriting.proofs.Made.{kept_over, settled_as}
use Rattle.cy_planner_rewriting.proofs.narrowing.narrows.settled.Goals as goal

pub ranked-requires : goal.ranked-requires
ranked-requires c =
    let p : Plan = plan_of c.args.narrow.plan in
    let columns : List ℕ = c.args.narrow.columns.items in
    subst (λ (cs : List ℕ). AllByRecursion (λ k. k < c.width.result) cs) (sym c.as_slice.ensures.value)
    (subst (λ (n : ℕ). AllByRecursion (λ k. k < n) columns) (sym c.width.ensures.width) (taken_inside columns p c.requires))

pub project-requires-clause-outputs : goal.project-requires-clause-outputs
project-requires-clause-outputs c =
    let p : Plan = plan_of c.args.narrow.plan in
    let columns : List ℕ = c.args.narrow.columns.items in
    let kept : List ℕ = c.in_ok-kept.field-0.kept.items in
    let places : List ℕ = c.in_ok-kept.field-0.places.items in
    let are : AreRanked (width p) columns kept places =
    subst (λ (n : ℕ). AreRanked n columns kept places) c.width.ensures.width (subst (λ (cs : List ℕ). AreRanked c.width.result cs kept places) c.as_slice.ensures.value c.in_ok-kept.ensures) in
    let made : map output_of c.in_ok-outputs.outputs.items ≡ map column_output kept = c.in_ok-outputs.ensures ∙ ap (map column_output) c.as_slice-2.ensures.value in
    subst (λ (os : List Output). All (IsOutputOver (width p)) os) (sym made) (kept_over p columns kept places c.requires are)

pub returns-clause-same : goal.returns-clause-same
returns-clause-same c =
    let p : Plan = plan_of c.args.narrow.plan in
    let columns : List ℕ = c.args.narrow.columns.items in
    let kept : List ℕ = c.in_ok-kept.field-0.kept.items in
    let places : List ℕ = c.in_ok-kept.field-0.places.items in
    let are : AreRanked (width p) columns kept places =
    subst (λ (n : ℕ). AreRanked n columns kept places) c.width.ensures.width (subst (λ (cs : List ℕ). AreRanked c.width.result cs kept places) c.as_slice.ensures.value c.in_ok-kept.ensures) in
    let made : map output_of c.in_ok-outputs.outputs.items ≡ map column_output kept = c.in_ok-outputs.ensures ∙ ap (map column_output) c.as_slice-2.ensures.value in
    settled_as p columns kept places c.requires are c.row_order_laws.ensures.total (plan_of c.in_ok-plan.plan) (c.in_ok-plan.ensures ∙ ap (plan.project p) made)
