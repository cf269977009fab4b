use Rattle.std.proofs.Common.{◌≡◌, true, ap, sym, ◌∙◌, arith}
use Rattle.cy_trees.specs.TreeModels.{expression_of}
use Rattle.cy_planner_algebra.specs.declared.operators.Operator.TheFolds.{fold-roll-Operator}
use Rattle.cy_planner_algebra.specs.declared.operators.Operator.TheVariants.{rolls-Filter}
use Rattle.cy_planner_algebra.specs.Plans as plan
use Rattle.cy_planner_algebra.specs.Plans.{Plan}
use Rattle.cy_planner_algebra.specs.PlanModels.{plan_of, plan_step}
use Rattle.cy_network_sources.proofs.NeededLabels.{label_test}
use Rattle.cy_network_sources.proofs.ThroughScans.{if_some_then}
use Rattle.cy_network_sources.proofs.needs.label_tested.Goals as goal

pub returns-in-Filter : goal.returns-in-Filter
returns-in-Filter c =
    let looks : c.looks_labels_up.result ≡ true = grind arith in
    let nodes : c.are_nodes.result ≡ true = grind arith in
    let lookup = c.looks_labels_up.ensures looks in
    let filter : plan_of c.args.filter.now ≡ plan.filter (plan_of c.in-Filter.field-0.value) (expression_of c.in-Filter.test) =
    ap plan_of (c.in-Filter.is ∙ sym (rolls-Filter c.in-Filter.field-0 c.in-Filter.test)) ∙ fold-roll-Operator Plan plan_step _ in
    if_some_then _ _ c.label_in.result
    (λ label is. label_test label.now (plan_of c.args.filter.now) (plan_of c.args.lookup.now) (plan_of c.args.nodes.now) (plan_of c.in-Filter.field-0.value) lookup.0 lookup.1.0 is.0
    (filter ∙ ap (plan.filter (plan_of c.in-Filter.field-0.value)) is.1.0) lookup.1.1 (c.are_nodes.ensures nodes) is.1.1)
    c.label_in.ensures
