use Rattle.std.proofs.Common.{◌≡◌, rules, true, length, map, sym, ◌∙◌, arith}
use Rattle.std.proofs.lemmas.Grind.{common_steps}
use Rattle.std.proofs.lemmas.List.{length-map}
use Rattle.std.proofs.lemmas.Result.{IfOk-weaker}
use Rattle.cy_planner_algebra.specs.Plans as plan
use Rattle.cy_planner_algebra.specs.Plans.{width}
use Rattle.cy_planner_algebra.specs.PlanModels.{output_of, plan_of}
use Rattle.cy_planner_rewriting.specs.internal.Columns.{are_columns_from}
use Rattle.cy_planner_rewriting.proofs.Congruent.{equal_plans}
use Rattle.cy_planner_rewriting.proofs.Rules.{project_to_all}
use Rattle.cy_planner_rewriting.proofs.parts.projected.Goals as goal

pub returns-then-are_first_columns : goal.returns-then-are_first_columns
returns-then-are_first_columns c =
    let wide : width (plan_of c.args.below) ≡ length c.args.outputs.items = first_of (search rules, grind (arith, common_steps)) in
    let first : are_columns_from 0 (map output_of c.args.outputs.items) ≡ true = first_of (search rules, grind (arith, common_steps)) in
    project_to_all (plan_of c.args.below) (map output_of c.args.outputs.items) c.width.ensures.well_formed first (wide ∙ sym (length-map c.args.outputs.items output_of))

pub returns-else-width-len : goal.returns-else-width-len
returns-else-width-len c = IfOk-weaker c.project.result _ _ (λ p is. equal_plans (plan.project (plan_of c.args.below) (map output_of c.args.outputs.items)) (plan_of p) (sym is)) c.project.ensures
