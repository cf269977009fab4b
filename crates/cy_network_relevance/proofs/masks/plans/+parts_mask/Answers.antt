-- Each part leads to the whole.
use Rattle.std.proofs.Common.{◌≡◌, ◌<◌, ◌≤◌, map, rules, refl, sym, ap, subst, ◌∙◌, arith}
use Rattle.cy_trees.specs.TreeModels.{expression_of}
use Rattle.cy_planner_algebra.specs.declared.operators.Operator.{Operator, size-Operator, the_lemmas}
use Rattle.cy_planner_algebra.specs.declared.operators.Operator.TheFolds.{fold-roll-Operator}
use Rattle.cy_planner_algebra.specs.declared.operators.Operator.TheVariants.{rolls-AllDifferent, rolls-Distinct, rolls-Filter, rolls-Join, rolls-Lookup, rolls-Outer, rolls-Project, rolls-Rels, rolls-Semi, rolls-Union}
use Rattle.cy_planner_algebra.specs.Plans as plan
use Rattle.cy_planner_algebra.specs.Plans.{Plan}
use Rattle.cy_planner_algebra.specs.PlanModels.{output_of, plan_of, plan_step}
use Rattle.cy_network_relevance.specs.declared.masks.Mask.{Mask}
use Rattle.cy_network_relevance.specs.NameBits.{lowest_bits, no_bits}
use Rattle.cy_network_relevance.specs.internal.Left.{IsLimited, LeavesUnread, rels_mask}
use Rattle.cy_network_relevance.proofs.MaskRules.{limited_nodes, limited_rels, unread_nodes, unread_rels}
use Rattle.cy_network_relevance.proofs.MaskWalk.{Leads, ends_filter, ends_here, ends_lookup, leads_different, leads_distinct, leads_filter, leads_join, leads_lookup, leads_outer, leads_project, leads_semi, leads_union}
use Rattle.cy_network_relevance.proofs.masks.plans.+parts_mask.Goals as goal

-- of a part that stands below another one is known what has to be
below_known : (so_far : Mask) (at below : Operator) (part whole : Operator) → at ≡ below → size-Operator below < size-Operator part → size-Operator part ≤ size-Operator whole → Leads so_far (plan_of below) (plan_of whole)
    → record { leads : Leads so_far (plan_of at) (plan_of whole); less : size-Operator at ≤ size-Operator whole }
below_known so_far at below part whole is smaller within leads = record {
  leads = subst (λ (o : Operator). Leads so_far (plan_of o) (plan_of whole)) (sym is) leads;
  less = subst (λ (o : Operator). size-Operator o ≤ size-Operator whole) (sym is) (omega (arith, smaller, within));
}

pub returns-in-Nodes : goal.returns-in-Nodes
returns-in-Nodes t c =
    let whole = plan_of c.args.part.now in
    let mask : Mask = record { nodes = lowest_bits; rels = no_bits } in
    let is : plan_of c.loop-part.part.now ≡ plan.nodes = search (rules, the_lemmas) in
    subst (λ (m : Mask). LeavesUnread m whole) (sym c.with.ensures)
    (ends_here c.loop-part.mask (plan_of c.loop-part.part.now) whole c.loop-part.invariant.leads mask (subst (LeavesUnread mask) (sym is) (unread_nodes mask (limited_nodes mask refl))))

pub returns-in-Rels : goal.returns-in-Rels
returns-in-Rels t c =
    let whole = plan_of c.args.part.now in
    let types = c.in-Rels.types.items in
    let mask = c.rels_mask.result in
    let p = plan.rels types c.in-Rels.field-1 in
    let is : plan_of c.loop-part.part.now ≡ p = ap plan_of (c.in-Rels.is ∙ sym (rolls-Rels c.in-Rels.types c.in-Rels.field-1)) ∙ fold-roll-Operator Plan plan_step _ in
    let same : mask ≡ rels_mask types = c.rels_mask.ensures ∙ ap rels_mask c.deref.ensures.value in
    let limited = subst (λ (m : Mask). IsLimited m p) (sym same) (limited_rels types c.in-Rels.field-1) in
    subst (λ (m : Mask). LeavesUnread m whole) (sym c.with-in-Rels.ensures)
    (ends_here c.loop-part.mask (plan_of c.loop-part.part.now) whole c.loop-part.invariant.leads mask (subst (LeavesUnread mask) (sym is) (unread_rels mask types c.in-Rels.field-1 limited)))

pub returns-in-Some : goal.returns-in-Some
returns-in-Some t c =
    let whole = plan_of c.args.part.now in
    let p = plan_of c.in-Lookup.below.value in
    let is : plan_of c.loop-part.part.now ≡ plan.lookup p c.in-Lookup.column c.in-Lookup.attribute =
    ap plan_of (c.in-Lookup.is ∙ sym (rolls-Lookup c.in-Lookup.below c.in-Lookup.column c.in-Lookup.attribute)) ∙ fold-roll-Operator Plan plan_step _ in
    subst (λ (m : Mask). LeavesUnread m whole) (sym c.with-in-Some.ensures)
    (ends_lookup c.loop-part.mask (plan_of c.loop-part.part.now) whole c.loop-part.invariant.leads c.in-Some.limit p c.in-Lookup.column c.in-Lookup.attribute is c.in-Some.ensures)

pub returns-in-Some-limit_unless : goal.returns-in-Some-limit_unless
returns-in-Some-limit_unless t c =
    let whole = plan_of c.args.part.now in
    let p = plan_of c.in-Filter.below.value in
    let is : plan_of c.loop-part.part.now ≡ plan.filter p (expression_of c.in-Filter.field-1) =
    ap plan_of (c.in-Filter.is ∙ sym (rolls-Filter c.in-Filter.below c.in-Filter.field-1)) ∙ fold-roll-Operator Plan plan_step _ in
    subst (λ (m : Mask). LeavesUnread m whole) (sym c.with-in-Some-limit_unless.ensures)
    (ends_filter c.loop-part.mask (plan_of c.loop-part.part.now) whole c.loop-part.invariant.leads c.in-Some-limit_unless.limit p (expression_of c.in-Filter.field-1) is c.in-Some-limit_unless.ensures)

pub loop-part-preserved-in-Lookup : goal.loop-part-preserved-in-Lookup
loop-part-preserved-in-Lookup t c =
    let whole = plan_of c.args.part.now in
    let part = c.loop-part.part.now in
    let below : Operator = c.in-Lookup.below.value in
    let p = plan_of c.in-Lookup.below.value in
    let is : plan_of c.loop-part.part.now ≡ plan.lookup p c.in-Lookup.column c.in-Lookup.attribute = ap plan_of (c.in-Lookup.is ∙ sym (rolls-Lookup c.in-Lookup.below c.in-Lookup.column c.in-Lookup.attribute)) ∙ fold-roll-Operator Plan plan_step _ in
    let less : size-Operator c.in-Lookup.below.value < size-Operator c.loop-part.part.now = search (rules, the_lemmas) in
    let leads = subst (λ (m : Mask). Leads m p whole) (sym c.with-mask.ensures) (leads_lookup c.loop-part.mask (plan_of part) whole c.loop-part.invariant.leads c.attribute_mask-read.result p c.in-Lookup.column c.in-Lookup.attribute is c.attribute_mask-read.ensures) in
    below_known c.with-mask.result c.deref-part.result.now below part c.args.part.now c.deref-part.ensures less c.loop-part.invariant.less leads

pub loop-part-preserved-in-Filter : goal.loop-part-preserved-in-Filter
loop-part-preserved-in-Filter t c =
    let whole = plan_of c.args.part.now in
    let part = c.loop-part.part.now in
    let below : Operator = c.in-Filter.below.value in
    let p = plan_of c.in-Filter.below.value in
    let is : plan_of c.loop-part.part.now ≡ plan.filter p (expression_of c.in-Filter.field-1) = ap plan_of (c.in-Filter.is ∙ sym (rolls-Filter c.in-Filter.below c.in-Filter.field-1)) ∙ fold-roll-Operator Plan plan_step _ in
    let less : size-Operator c.in-Filter.below.value < size-Operator c.loop-part.part.now = search (rules, the_lemmas) in
    below_known c.loop-part.mask c.deref-part-in-Filter.result.now below part c.args.part.now c.deref-part-in-Filter.ensures less c.loop-part.invariant.less
    (leads_filter c.loop-part.mask (plan_of part) whole c.loop-part.invariant.leads p (expression_of c.in-Filter.field-1) is)

pub loop-part-preserved-in-Project : goal.loop-part-preserved-in-Project
loop-part-preserved-in-Project t c =
    let whole = plan_of c.args.part.now in
    let part = c.loop-part.part.now in
    let below : Operator = c.in-Project.below.value in
    let p = plan_of c.in-Project.below.value in
    let outputs = map output_of c.in-Project.outputs.items in
    let is : plan_of c.loop-part.part.now ≡ plan.project p outputs = ap plan_of (c.in-Project.is ∙ sym (rolls-Project c.in-Project.below c.in-Project.outputs)) ∙ fold-roll-Operator Plan plan_step _ in
    let less : size-Operator c.in-Project.below.value < size-Operator c.loop-part.part.now = search (rules, the_lemmas) in
    below_known c.loop-part.mask c.deref-part-in-Project.result.now below part c.args.part.now c.deref-part-in-Project.ensures less c.loop-part.invariant.less
    (leads_project c.loop-part.mask (plan_of part) whole c.loop-part.invariant.leads p outputs is)

pub loop-part-preserved-in-AllDifferent : goal.loop-part-preserved-in-AllDifferent
loop-part-preserved-in-AllDifferent t c =
    let whole = plan_of c.args.part.now in
    let part = c.loop-part.part.now in
    let below : Operator = c.in-AllDifferent.below.value in
    let p = plan_of c.in-AllDifferent.below.value in
    let is : plan_of c.loop-part.part.now ≡ plan.all_different p c.in-AllDifferent.field-1.items = ap plan_of (c.in-AllDifferent.is ∙ sym (rolls-AllDifferent c.in-AllDifferent.below c.in-AllDifferent.field-1)) ∙ fold-roll-Operator Plan plan_step _ in
    let less : size-Operator c.in-AllDifferent.below.value < size-Operator c.loop-part.part.now = search (rules, the_lemmas) in
    below_known c.loop-part.mask c.deref-part-in-AllDifferent.result.now below part c.args.part.now c.deref-part-in-AllDifferent.ensures less c.loop-part.invariant.less
    (leads_different c.loop-part.mask (plan_of part) whole c.loop-part.invariant.leads p c.in-AllDifferent.field-1.items is)

pub loop-part-preserved-in-Distinct : goal.loop-part-preserved-in-Distinct
loop-part-preserved-in-Distinct t c =
    let whole = plan_of c.args.part.now in
    let part = c.loop-part.part.now in
    let below : Operator = c.in-Distinct.below.value in
    let p = plan_of c.in-Distinct.below.value in
    let is : plan_of c.loop-part.part.now ≡ plan.distinct p = ap plan_of (c.in-Distinct.is ∙ sym (rolls-Distinct c.in-Distinct.below)) ∙ fold-roll-Operator Plan plan_step _ in
    let less : size-Operator c.in-Distinct.below.value < size-Operator c.loop-part.part.now = search (rules, the_lemmas) in
    below_known c.loop-part.mask c.deref-part-in-Distinct.result.now below part c.args.part.now c.deref-part-in-Distinct.ensures less c.loop-part.invariant.less
    (leads_distinct c.loop-part.mask (plan_of part) whole c.loop-part.invariant.leads p is)

pub loop-part-preserved-in-Join : goal.loop-part-preserved-in-Join
loop-part-preserved-in-Join t c =
    let whole = plan_of c.args.part.now in
    let part = c.loop-part.part.now in
    let below : Operator = c.in-Join.left.value in
    let p = plan_of c.in-Join.left.value in
    let r = plan_of c.in-Join.right.value in
    let known = subst (λ (o : Operator). LeavesUnread c.parts_mask-read.result (plan_of o)) c.deref-in-Join.ensures c.parts_mask-read.ensures in
    let is : plan_of c.loop-part.part.now ≡ plan.join p r c.in-Join.field-2.items = ap plan_of (c.in-Join.is ∙ sym (rolls-Join c.in-Join.left c.in-Join.right c.in-Join.field-2)) ∙ fold-roll-Operator Plan plan_step _ in
    let less : size-Operator c.in-Join.left.value < size-Operator c.loop-part.part.now = search (rules, the_lemmas) in
    let leads = subst (λ (m : Mask). Leads m p whole) (sym c.with-mask-in-Join.ensures) (leads_join c.loop-part.mask (plan_of part) whole c.loop-part.invariant.leads c.parts_mask-read.result p r known c.in-Join.field-2.items is) in
    below_known c.with-mask-in-Join.result c.deref-part-in-Join.result.now below part c.args.part.now c.deref-part-in-Join.ensures less c.loop-part.invariant.less leads

pub loop-part-preserved-in-Outer : goal.loop-part-preserved-in-Outer
loop-part-preserved-in-Outer t c =
    let whole = plan_of c.args.part.now in
    let part = c.loop-part.part.now in
    let below : Operator = c.in-Outer.left.value in
    let p = plan_of c.in-Outer.left.value in
    let r = plan_of c.in-Outer.right.value in
    let known = subst (λ (o : Operator). LeavesUnread c.parts_mask-read-in-Outer.result (plan_of o)) c.deref-in-Outer.ensures c.parts_mask-read-in-Outer.ensures in
    let is : plan_of c.loop-part.part.now ≡ plan.outer p r c.in-Outer.field-2.items (expression_of c.in-Outer.field-3) = ap plan_of (c.in-Outer.is ∙ sym (rolls-Outer c.in-Outer.left c.in-Outer.right c.in-Outer.field-2 c.in-Outer.field-3)) ∙ fold-roll-Operator Plan plan_step _ in
    let less : size-Operator c.in-Outer.left.value < size-Operator c.loop-part.part.now = search (rules, the_lemmas) in
    let leads = subst (λ (m : Mask). Leads m p whole) (sym c.with-mask-in-Outer.ensures) (leads_outer c.loop-part.mask (plan_of part) whole c.loop-part.invariant.leads c.parts_mask-read-in-Outer.result p r known c.in-Outer.field-2.items (expression_of c.in-Outer.field-3) is) in
    below_known c.with-mask-in-Outer.result c.deref-part-in-Outer.result.now below part c.args.part.now c.deref-part-in-Outer.ensures less c.loop-part.invariant.less leads

pub loop-part-preserved-in-Semi : goal.loop-part-preserved-in-Semi
loop-part-preserved-in-Semi t c =
    let whole = plan_of c.args.part.now in
    let part = c.loop-part.part.now in
    let below : Operator = c.in-Semi.left.value in
    let p = plan_of c.in-Semi.left.value in
    let r = plan_of c.in-Semi.right.value in
    let known = subst (λ (o : Operator). LeavesUnread c.parts_mask-read-in-Semi.result (plan_of o)) c.deref-in-Semi.ensures c.parts_mask-read-in-Semi.ensures in
    let is : plan_of c.loop-part.part.now ≡ plan.semi p r c.in-Semi.field-2.items c.in-Semi.field-3 = ap plan_of (c.in-Semi.is ∙ sym (rolls-Semi c.in-Semi.left c.in-Semi.right c.in-Semi.field-2 c.in-Semi.field-3)) ∙ fold-roll-Operator Plan plan_step _ in
    let less : size-Operator c.in-Semi.left.value < size-Operator c.loop-part.part.now = search (rules, the_lemmas) in
    let leads = subst (λ (m : Mask). Leads m p whole) (sym c.with-mask-in-Semi.ensures) (leads_semi c.loop-part.mask (plan_of part) whole c.loop-part.invariant.leads c.parts_mask-read-in-Semi.result p r known c.in-Semi.field-2.items c.in-Semi.field-3 is) in
    below_known c.with-mask-in-Semi.result c.deref-part-in-Semi.result.now below part c.args.part.now c.deref-part-in-Semi.ensures less c.loop-part.invariant.less leads

pub loop-part-preserved : goal.loop-part-preserved
loop-part-preserved t c =
    let whole = plan_of c.args.part.now in
    let part = c.loop-part.part.now in
    let below : Operator = c.in-Union.left.value in
    let p = plan_of c.in-Union.left.value in
    let r = plan_of c.in-Union.right.value in
    let known = subst (λ (o : Operator). LeavesUnread c.parts_mask-read-in-Union.result (plan_of o)) c.deref-in-Union.ensures c.parts_mask-read-in-Union.ensures in
    let is : plan_of c.loop-part.part.now ≡ plan.union p r = ap plan_of (c.in-Union.is ∙ sym (rolls-Union c.in-Union.left c.in-Union.right)) ∙ fold-roll-Operator Plan plan_step _ in
    let less : size-Operator c.in-Union.left.value < size-Operator c.loop-part.part.now = search (rules, the_lemmas) in
    let leads = subst (λ (m : Mask). Leads m p whole) (sym c.with-mask-in-Union.ensures) (leads_union c.loop-part.mask (plan_of part) whole c.loop-part.invariant.leads c.parts_mask-read-in-Union.result p r known is) in
    below_known c.with-mask-in-Union.result c.deref-part-in-Union.result.now below part c.args.part.now c.deref-part-in-Union.ensures less c.loop-part.invariant.less leads
