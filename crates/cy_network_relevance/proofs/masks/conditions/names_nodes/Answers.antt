use Rattle.std.proofs.Common.{◌≡◌, Some, map, sym, ap, subst, ◌∙◌, arith}
use Rattle.cy_trees.specs.TreeModels.{expression_of}
use Rattle.cy_planner_algebra.specs.declared.operators.Operator.{Operator}
use Rattle.cy_planner_algebra.specs.declared.operators.Operator.TheFolds.{fold-roll-Operator}
use Rattle.cy_planner_algebra.specs.declared.operators.Operator.TheVariants.{rolls-Filter, rolls-Lookup, rolls-Project}
use Rattle.cy_planner_algebra.specs.Plans as plan
use Rattle.cy_planner_algebra.specs.Plans.{Plan}
use Rattle.cy_planner_algebra.specs.PlanModels.{output_of, plan_of, plan_step}
use Rattle.cy_network_sources.specs.Scans.{kept_at}
use Rattle.cy_network_relevance.specs.internal.Labelled.{NamesNodes}
use Rattle.cy_network_relevance.proofs.Labelled.{names_filter, names_lookup, names_project}
use Rattle.cy_network_relevance.proofs.masks.conditions.names_nodes.Goals as goal

pub loop-part-preserved-in-Lookup : goal.loop-part-preserved-in-Lookup
loop-part-preserved-in-Lookup c = λ names.
    let p = plan_of c.in-Lookup.below.value in
    let is : plan_of c.loop-part.part.now ≡ plan.lookup p c.in-Lookup.column c.in-Lookup.field-2 =
    ap plan_of (c.in-Lookup.is ∙ sym (rolls-Lookup c.in-Lookup.below c.in-Lookup.column c.in-Lookup.field-2)) ∙ fold-roll-Operator Plan plan_step _ in
    let few = c.if-column-gt0.false in
    let first : c.in-Lookup.column ≡ 0 = omega (arith, few) in
    c.loop-part.invariant (subst NamesNodes (sym is) (names_lookup p c.in-Lookup.column c.in-Lookup.field-2 first (subst (λ (q : Operator). NamesNodes (plan_of q)) c.deref-part.ensures names)))

pub loop-part-preserved-in-Filter : goal.loop-part-preserved-in-Filter
loop-part-preserved-in-Filter c = λ names.
    let p = plan_of c.in-Filter.below.value in
    let test = expression_of c.in-Filter.field-1 in
    let is : plan_of c.loop-part.part.now ≡ plan.filter p test = ap plan_of (c.in-Filter.is ∙ sym (rolls-Filter c.in-Filter.below c.in-Filter.field-1)) ∙ fold-roll-Operator Plan plan_step _ in
    c.loop-part.invariant (subst NamesNodes (sym is) (names_filter p test (subst (λ (q : Operator). NamesNodes (plan_of q)) c.deref-part-in-Filter.ensures names)))

pub loop-part-preserved : goal.loop-part-preserved
loop-part-preserved c = λ names.
    let p = plan_of c.in-Project.below.value in
    let outputs = map output_of c.in-Project.outputs.items in
    let is : plan_of c.loop-part.part.now ≡ plan.project p outputs = ap plan_of (c.in-Project.is ∙ sym (rolls-Project c.in-Project.below c.in-Project.outputs)) ∙ fold-roll-Operator Plan plan_step _ in
    let first : kept_at 0 outputs ≡ Some 0 = sym (ap (λ os. kept_at 0 (map output_of os)) c.deref.ensures.value) ∙ c.keeps_first.ensures c.if-not-keeps_first.false in
    c.loop-part.invariant (subst NamesNodes (sym is) (names_project p outputs first (subst (λ (q : Operator). NamesNodes (plan_of q)) c.deref-part-in-Project.ensures names)))
