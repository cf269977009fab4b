use Rattle.std.proofs.Common.{◌≡◌, Some, map, length, sym, ap, subst, ◌∙◌}
use Rattle.std.proofs.lemmas.List.{length-map}
use Rattle.cy_trees.specs.TreeModels.{expression_of}
use Rattle.cy_planner_algebra.specs.declared.operators.Operator.{Operator}
use Rattle.cy_planner_algebra.specs.declared.operators.Operator.TheFolds.{fold-roll-Operator}
use Rattle.cy_planner_algebra.specs.declared.operators.Operator.TheVariants.{rolls-Filter, rolls-Project}
use Rattle.cy_planner_algebra.specs.Plans as plan
use Rattle.cy_planner_algebra.specs.Plans.{Plan}
use Rattle.cy_planner_algebra.specs.PlanModels.{output_of, plan_of, plan_step}
use Rattle.cy_network_sources.specs.Scans.{kept_at}
use Rattle.cy_network_relevance.specs.internal.Labelled.{IsSingle, NamesNodes}
use Rattle.cy_network_relevance.proofs.Labelled.{single_filter, single_project}
use Rattle.cy_network_relevance.proofs.masks.conditions.is_single.Goals as goal

pub loop-part-preserved : goal.loop-part-preserved
loop-part-preserved c = λ one.
    let p = plan_of c.in-Filter.below.value in
    let is : plan_of c.loop-part.part.now ≡ plan.filter p (expression_of c.in-Filter.field-1) =
    ap plan_of (c.in-Filter.is ∙ sym (rolls-Filter c.in-Filter.below c.in-Filter.field-1)) ∙ fold-roll-Operator Plan plan_step _ in
    c.loop-part.invariant (subst IsSingle (sym is) (single_filter p (expression_of c.in-Filter.field-1) (subst (λ (o : Operator). IsSingle (plan_of o)) c.deref-part.ensures one)))

pub returns-then-gives_first : goal.returns-then-gives_first
returns-then-gives_first c = λ named.
    let p = plan_of c.in-Project.below.value in
    let outputs = map output_of c.in-Project.outputs.items in
    let is : plan_of c.loop-part.part.now ≡ plan.project p outputs =
    ap plan_of (c.in-Project.is ∙ sym (rolls-Project c.in-Project.below c.in-Project.outputs)) ∙ fold-roll-Operator Plan plan_step _ in
    let one : length outputs ≡ 1 = length-map c.in-Project.outputs.items output_of ∙ sym (ap length c.deref.ensures.value) ∙ c.gives_first.ensures.one c.if-gives_first.true in
    let first : kept_at 0 outputs ≡ Some 0 = sym (ap (λ os. kept_at 0 (map output_of os)) c.deref.ensures.value) ∙ c.gives_first.ensures.first c.if-gives_first.true in
    c.loop-part.invariant (subst IsSingle (sym is) (single_project p outputs one first (subst (λ (o : Operator). NamesNodes (plan_of o)) c.deref-then-gives_first.ensures (c.names_nodes.ensures named))))
