use Rattle.std.proofs.Common.{◌≤◌, List, length, sym, ap, subst, ◌∙◌, arith}
use Rattle.std.specs.List.{All}
use Rattle.std.proofs.lemmas.List.{length-map}
use Rattle.std.proofs.lemmas.List.FromFn.{length-map-range_with_len}
use Rattle.cy_planner_algebra.specs.Plans.{Output, width}
use Rattle.cy_planner_algebra.specs.PlanModels.{output_of, plan_of}
use Rattle.cy_planner_algebra.specs.WellFormed.{IsOutputOver, greatest_width}
use Rattle.cy_planner_rows.specs.Columns.{column_output}
use Rattle.cy_planner_rows.proofs.OverRows.{first_over, width_bounded}
use Rattle.cy_planner_rows.proofs.columns.narrowed.Goals as goal

pub project-requires-clause-outputs : goal.project-requires-clause-outputs
project-requires-clause-outputs c =
    subst (λ (outputs : List Output). All (IsOutputOver (width (plan_of c.args.plan))) outputs) (sym c.in_ok-outputs.ensures) (first_over c.args.count (width (plan_of c.args.plan)) c.requires)

pub project-requires-clause-room : goal.project-requires-clause-room
project-requires-clause-room c =
    let within : width (plan_of c.args.plan) ≤ greatest_width = width_bounded (plan_of c.args.plan) c.width.ensures.well_formed in
    let long = sym (length-map c.in_ok-outputs.outputs.items output_of) ∙ ap length c.in_ok-outputs.ensures ∙ length-map-range_with_len column_output 0 c.args.count in
    omega (arith, within, long, c.requires)
