use Rattle.std.proofs.Common.{◌≡◌, ℕ, rules, List, map, sym, ap, subst, ◌∙◌, arith}
use Rattle.std.specs.List.{All}
use Rattle.std.proofs.lemmas.Grind.{common_steps}
use Rattle.std.proofs.lemmas.Result.{IfOk-weaker}
use Rattle.cy_planner_algebra.specs.Plans as plan
use Rattle.cy_planner_algebra.specs.Plans.{Plan, Output, width}
use Rattle.cy_planner_algebra.specs.PlanModels.{output_of, plan_of}
use Rattle.cy_planner_algebra.specs.WellFormed.{IsOutputOver}
use Rattle.cy_planner_rows.specs.Renumbered.{new_column}
use Rattle.cy_planner_rewriting.specs.internal.Columns.{AreColumns, renumbered_output}
use Rattle.cy_planner_rewriting.specs.Rewritten.{IsRewritten}
use Rattle.cy_planner_rewriting.specs.internal.Narrows.{restored, taken}
use Rattle.cy_planner_rewriting.proofs.NarrowColumns.{columns_again, projected_again}
use Rattle.cy_planner_rewriting.proofs.Made.{made_again}
use Rattle.cy_planner_rewriting.proofs.narrowing.layers.projected.Goals as goal

pub returns-in-Some : goal.returns-in-Some
returns-in-Some c =
    let p : Plan = plan_of c.args.below.plan in
    let columns : List ℕ = c.args.below.columns.items in
    let outputs : List Output = map output_of c.args.outputs.items in
    let others : List ℕ = c.in-Some.taken.items in
    let are : AreColumns outputs others = rw c.as_slice.ensures.value at (rw c.in-Some.is at c.in_ok-taken.ensures) in
    let made : c.in_ok-columns-in-Some.columns.items ≡ map (new_column columns) others = first_of (search rules, grind (arith, common_steps)) in
    subst (λ (cs : List ℕ). IsRewritten (plan.project (taken columns p) outputs) (taken cs p)) (sym made) (columns_again p columns outputs c.requires others are)

pub project-requires-clause-outputs : goal.project-requires-clause-outputs
project-requires-clause-outputs c =
    let p : Plan = plan_of c.args.below.plan in
    let columns : List ℕ = c.args.below.columns.items in
    let outputs : List Output = map output_of c.args.outputs.items in
    let made : map output_of c.in_ok-outputs-in-None.outputs.items ≡ map (renumbered_output columns) outputs = first_of (search rules, grind (arith, common_steps)) in
    subst (λ (os : List Output). All (IsOutputOver (width p)) os) (sym made) ((projected_again p columns outputs c.requires).well_formed c.requires).1

pub returns : goal.returns
returns c =
    let p : Plan = plan_of c.args.below.plan in
    let columns : List ℕ = c.args.below.columns.items in
    let outputs : List Output = map output_of c.args.outputs.items in
    let made : map output_of c.in_ok-outputs-in-None.outputs.items ≡ map (renumbered_output columns) outputs = first_of (search rules, grind (arith, common_steps)) in
    IfOk-weaker c.whole.result _ _
    (λ n is.
    made_again (plan.project (taken columns p) outputs) (plan.project p (map (renumbered_output columns) outputs)) (plan_of c.in_ok-project-in-None.field-0) (restored n) (projected_again p columns outputs c.requires)
    (c.in_ok-project-in-None.ensures ∙ ap (plan.project p) made) is) c.whole.ensures
