use Rattle.std.proofs.Common.{◌≡◌, ap, sym, ◌∙◌}
use Rattle.cy_planner_algebra.specs.declared.operators.Operator.TheFolds.{fold-roll-Operator}
use Rattle.cy_planner_algebra.specs.declared.operators.Operator.TheVariants.{rolls-Lookup}
use Rattle.cy_planner_algebra.specs.Plans as plan
use Rattle.cy_planner_algebra.specs.Plans.{Plan}
use Rattle.cy_planner_algebra.specs.PlanModels.{plan_of, plan_step}
use Rattle.cy_network_sources.proofs.needs.looks_labels_up.Goals as goal

pub returns-in-Lookup : goal.returns-in-Lookup
returns-in-Lookup c = λ yes.
    let part = c.in-Lookup in
    let is : plan_of c.args.part.now ≡ plan.lookup (plan_of part.field-0.value) part.field-1 part.attribute =
    ap plan_of (part.is ∙ sym (rolls-Lookup part.field-0 part.field-1 part.attribute)) ∙ fold-roll-Operator Plan plan_step _ in
    (plan_of part.field-0.value, (part.field-1, is ∙ ap (plan.lookup (plan_of part.field-0.value) part.field-1) (c.are_labels.ensures yes)))
