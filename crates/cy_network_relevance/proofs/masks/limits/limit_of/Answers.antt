use Rattle.std.proofs.Common.{◌≡◌, Some, map, rules, refl, sym, ap, subst, ◌∙◌, arith}
use Rattle.cy_trees.specs.TreeModels.{expression_of}
use Rattle.cy_planner_algebra.specs.declared.operators.Operator.{Operator, the_lemmas}
use Rattle.cy_planner_algebra.specs.declared.operators.Operator.TheFolds.{fold-roll-Operator}
use Rattle.cy_planner_algebra.specs.declared.operators.Operator.TheVariants.{rolls-Filter, rolls-Lookup, rolls-Project, rolls-Rels}
use Rattle.cy_planner_algebra.specs.Plans as plan
use Rattle.cy_planner_algebra.specs.Plans.{Plan}
use Rattle.cy_planner_algebra.specs.PlanModels.{output_of, plan_of, plan_step}
use Rattle.cy_network_sources.specs.Scans.{kept_at}
use Rattle.cy_network_relevance.specs.declared.masks.Mask.{Mask}
use Rattle.cy_network_relevance.specs.NameBits.{lowest_bits, no_bits}
use Rattle.cy_network_relevance.specs.internal.Labelled.{LacksWithout}
use Rattle.cy_network_relevance.specs.internal.Left.{IsLimited, label_mask, rels_mask}
use Rattle.cy_network_relevance.proofs.MaskRules.{limited_filter, limited_label, limited_lookup, limited_nodes, limited_project, limited_rels}
use Rattle.cy_network_relevance.proofs.masks.limits.limit_of.Goals as goal

pub loop-part-preserved-in-Lookup : goal.loop-part-preserved-in-Lookup
loop-part-preserved-in-Lookup c = λ mask limited.
    let p = plan_of c.in-Lookup.below.value in
    let is : plan_of c.loop-part.part.now ≡ plan.lookup p c.in-Lookup.column c.in-Lookup.field-2 =
    ap plan_of (c.in-Lookup.is ∙ sym (rolls-Lookup c.in-Lookup.below c.in-Lookup.column c.in-Lookup.field-2)) ∙ fold-roll-Operator Plan plan_step _ in
    let few = c.if-column-gt0.false in
    let first : c.in-Lookup.column ≡ 0 = omega (arith, few) in
    c.loop-part.invariant mask (subst (IsLimited mask) (sym is) (limited_lookup mask p (subst (λ (q : Operator). IsLimited mask (plan_of q)) c.deref-part.ensures limited) c.in-Lookup.column c.in-Lookup.field-2 first))

pub loop-part-preserved-in-Filter : goal.loop-part-preserved-in-Filter
loop-part-preserved-in-Filter c = λ mask limited.
    let p = plan_of c.in-Filter.below.value in
    let test = expression_of c.in-Filter.test in
    let is : plan_of c.loop-part.part.now ≡ plan.filter p test = ap plan_of (c.in-Filter.is ∙ sym (rolls-Filter c.in-Filter.below c.in-Filter.test)) ∙ fold-roll-Operator Plan plan_step _ in
    c.loop-part.invariant mask (subst (IsLimited mask) (sym is) (limited_filter mask p (subst (λ (q : Operator). IsLimited mask (plan_of q)) c.deref-part-in-Filter.ensures limited) test))

pub loop-part-preserved : goal.loop-part-preserved
loop-part-preserved c = λ mask limited.
    let p = plan_of c.in-Project.below.value in
    let outputs = map output_of c.in-Project.outputs.items in
    let is : plan_of c.loop-part.part.now ≡ plan.project p outputs = ap plan_of (c.in-Project.is ∙ sym (rolls-Project c.in-Project.below c.in-Project.outputs)) ∙ fold-roll-Operator Plan plan_step _ in
    let first : kept_at 0 outputs ≡ Some 0 = sym (ap (λ os. kept_at 0 (map output_of os)) c.deref-in-Project.ensures.value) ∙ c.keeps_first.ensures c.if-not-keeps_first.false in
    c.loop-part.invariant mask (subst (IsLimited mask) (sym is) (limited_project mask p (subst (λ (q : Operator). IsLimited mask (plan_of q)) c.deref-part-in-Project.ensures limited) outputs first))

pub returns-in-Nodes : goal.returns-in-Nodes
returns-in-Nodes c =
    let mask : Mask = record { nodes = lowest_bits; rels = no_bits } in
    let is : plan_of c.loop-part.part.now ≡ plan.nodes = search (rules, the_lemmas) in
    c.loop-part.invariant mask (subst (IsLimited mask) (sym is) (limited_nodes mask refl))

pub returns-in-Rels : goal.returns-in-Rels
returns-in-Rels c =
    let types = c.in-Rels.types.items in
    let p = plan.rels types c.in-Rels.field-1 in
    let is : plan_of c.loop-part.part.now ≡ p = ap plan_of (c.in-Rels.is ∙ sym (rolls-Rels c.in-Rels.types c.in-Rels.field-1)) ∙ fold-roll-Operator Plan plan_step _ in
    let same : c.rels_mask.result ≡ rels_mask types = c.rels_mask.ensures ∙ ap rels_mask c.deref.ensures.value in
    c.loop-part.invariant c.rels_mask.result (subst (IsLimited c.rels_mask.result) (sym is) (subst (λ (m : Mask). IsLimited m p) (sym same) (limited_rels types c.in-Rels.field-1)))

pub returns-in-Some : goal.returns-in-Some
returns-in-Some c =
    let p = plan_of c.in-Filter.below.value in
    let test = expression_of c.in-Filter.test in
    let label = c.in-Some.label.now in
    let is : plan_of c.loop-part.part.now ≡ plan.filter p test = ap plan_of (c.in-Filter.is ∙ sym (rolls-Filter c.in-Filter.below c.in-Filter.test)) ∙ fold-roll-Operator Plan plan_step _ in
    let limited = limited_label label (plan.filter p test) (subst (λ (o : Operator). LacksWithout label (plan.filter (plan_of o) test)) c.deref-in-Filter.ensures c.in-Some.ensures) in
    c.loop-part.invariant c.label_mask.result
    (subst (λ (m : Mask). IsLimited m (plan_of c.loop-part.part.now)) (sym c.label_mask.ensures) (subst (IsLimited (label_mask label)) (sym is) limited))
