use Rattle.std.proofs.Common.{◌≡◌, sym, ap, subst, ◌∙◌, arith}
use Rattle.cy_trees.specs.TreeModels.{expression_of}
use Rattle.cy_planner_algebra.specs.declared.operators.Operator.{Operator}
use Rattle.cy_planner_algebra.specs.declared.operators.Operator.TheFolds.{fold-roll-Operator}
use Rattle.cy_planner_algebra.specs.declared.operators.Operator.TheVariants.{rolls-Filter, rolls-Lookup}
use Rattle.cy_planner_algebra.specs.Plans as plan
use Rattle.cy_planner_algebra.specs.Plans.{Plan}
use Rattle.cy_planner_algebra.specs.PlanModels.{plan_of, plan_step}
use Rattle.cy_network_relevance.specs.internal.Labelled.{HasLabels, IsSingle}
use Rattle.cy_network_relevance.proofs.Labelled.{labelled_filter, labelled_lookup, labelled_over}
use Rattle.cy_network_relevance.proofs.masks.conditions.has_labels.Goals as goal

pub returns-then-is_single : goal.returns-then-is_single
returns-then-is_single c = λ same.
    let p = plan_of c.in-Lookup.below.value in
    let is : plan_of c.loop-part.part.now ≡ plan.lookup p c.in-Lookup.column c.in-Lookup.attribute =
    ap plan_of (c.in-Lookup.is ∙ sym (rolls-Lookup c.in-Lookup.below c.in-Lookup.column c.in-Lookup.attribute)) ∙ fold-roll-Operator Plan plan_step _ in
    let few = c.if-column-gt0.false in
    let first : c.in-Lookup.column ≡ 0 = omega (arith, few) in
    c.loop-part.invariant (subst HasLabels (sym is) (labelled_lookup p c.in-Lookup.column c.in-Lookup.attribute first (c.is_labels.ensures c.if-is_labels.true)
    (subst (λ (o : Operator). IsSingle (plan_of o)) c.deref.ensures (c.is_single.ensures c.if-is_single.true))))

pub loop-part-preserved-in-Lookup : goal.loop-part-preserved-in-Lookup
loop-part-preserved-in-Lookup c = λ has.
    let p = plan_of c.in-Lookup.below.value in
    let is : plan_of c.loop-part.part.now ≡ plan.lookup p c.in-Lookup.column c.in-Lookup.attribute =
    ap plan_of (c.in-Lookup.is ∙ sym (rolls-Lookup c.in-Lookup.below c.in-Lookup.column c.in-Lookup.attribute)) ∙ fold-roll-Operator Plan plan_step _ in
    let few = c.if-column-gt0.false in
    let first : c.in-Lookup.column ≡ 0 = omega (arith, few) in
    c.loop-part.invariant (subst HasLabels (sym is) (labelled_over p c.in-Lookup.column c.in-Lookup.attribute first (subst (λ (o : Operator). HasLabels (plan_of o)) c.deref-part.ensures has)))

pub loop-part-preserved : goal.loop-part-preserved
loop-part-preserved c = λ has.
    let p = plan_of c.in-Filter.below.value in
    let is : plan_of c.loop-part.part.now ≡ plan.filter p (expression_of c.in-Filter.field-1) =
    ap plan_of (c.in-Filter.is ∙ sym (rolls-Filter c.in-Filter.below c.in-Filter.field-1)) ∙ fold-roll-Operator Plan plan_step _ in
    c.loop-part.invariant (subst HasLabels (sym is) (labelled_filter p (expression_of c.in-Filter.field-1) (subst (λ (o : Operator). HasLabels (plan_of o)) c.deref-part-in-Filter.ensures has)))
