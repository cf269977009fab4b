use Rattle.std.proofs.Common.{◌≡◌, ap, sym, map, ◌∙◌}
use Rattle.cy_planner_algebra.specs.declared.operators.Operator.TheFolds.{fold-roll-Operator}
use Rattle.cy_planner_algebra.specs.declared.operators.Operator.TheVariants.{rolls-Project}
use Rattle.cy_planner_algebra.specs.Plans as plan
use Rattle.cy_planner_algebra.specs.Plans.{Plan}
use Rattle.cy_planner_algebra.specs.PlanModels.{output_of, plan_of, plan_step}
use Rattle.cy_network_sources.proofs.needs.gives_first.Goals as goal

pub returns-in-Project : goal.returns-in-Project
returns-in-Project c = λ yes.
    let part = c.in-Project in
    let is : plan_of c.args.part.now ≡ plan.project (plan_of part.field-0.value) (map output_of part.outputs.items) =
    ap plan_of (part.is ∙ sym (rolls-Project part.field-0 part.outputs)) ∙ fold-roll-Operator Plan plan_step _ in
    let first = c.is_first.ensures yes in
    (plan_of part.field-0.value, (first.0, (is ∙ ap (λ os. plan.project (plan_of part.field-0.value) (map output_of os)) (sym c.deref.ensures.value) ∙ ap (plan.project (plan_of part.field-0.value)) first.1.0, first.1.1)))
