use Rattle.std.proofs.Common.{◌-◌, map, sym, ap, ◌∙◌, arith}
use Rattle.cy_trees.specs.TreeModels.{expression_of}
use Rattle.cy_planner_algebra.specs.PlanModels.{output_of, plan_of}
use Rattle.cy_network_parts.specs.SameConditions.{same_condition}
use Rattle.cy_network_parts.specs.SamePlans.{same_plan}
use Rattle.cy_network_parts.proofs.OtherPlans.{else_differs, filter_else, filter_of, filter_same, is_twelve, join_else, join_of, lookup_else, lookup_of, project_else, project_of, rels_else, rels_of}
use Rattle.cy_network_parts.proofs.same_plans.+same_within.Goals as goal

pub returns-then-same_within-3 : goal.returns-then-same_within-3
returns-then-same_within-3 t c =
    let at = c.in-Filter-Filter in
    let some = c.if-deep-eq0.false in
    let below = (λ i. same_plan (c.args.deep - 1) (plan_of (sym c.deref-in-Filter-Filter.ensures i)) (plan_of (sym c.deref-in-Filter-Filter-2.ensures i)))
    ∙ sym c.same_within-in-Filter-Filter.ensures ∙ c.if-same_within-3.true
    in
    c.same_condition.ensures ∙ ap (λ deep. same_condition deep (expression_of at.test) (expression_of at.wanted)) is_twelve
    ∙ filter_same c.args.deep (c.args.deep - 1) (plan_of c.args.part.now) (plan_of c.args.other.now) (plan_of at.below.value) (plan_of at.other.value) (expression_of at.test) (expression_of at.wanted)
    (filter_of c.args.part.now at.below at.test at.is-0) (filter_of c.args.other.now at.other at.wanted at.is-1) (omega (arith, some)) below

pub returns-in_default-2 : goal.returns-in_default-2
returns-in_default-2 t c =
    let at = c.in_default in
    sym (ap (λ p. same_plan c.args.deep p (plan_of c.args.other.now)) (rels_of c.args.part.now at.field-0-0 at.field-1-0 at.is-0) ∙ rels_else c.args.deep at.field-0-0.items at.field-1-0 c.args.other.now at.not-Rels-1)

pub returns-in_default-3 : goal.returns-in_default-3
returns-in_default-3 t c =
    let at = c.in_default in
    sym (ap (λ p. same_plan c.args.deep p (plan_of c.args.other.now)) (project_of c.args.part.now at.field-0-0 at.field-1-0 at.is-0)
    ∙ project_else c.args.deep (plan_of at.field-0-0.value) (map output_of at.field-1-0.items) c.args.other.now at.not-Project-1)

pub returns-in_default-4 : goal.returns-in_default-4
returns-in_default-4 t c =
    let at = c.in_default in
    sym (ap (λ p. same_plan c.args.deep p (plan_of c.args.other.now)) (lookup_of c.args.part.now at.field-0-0 at.field-1-0 at.field-2-0 at.is-0)
    ∙ lookup_else c.args.deep (plan_of at.field-0-0.value) at.field-1-0 at.field-2-0 c.args.other.now at.not-Lookup-1)

pub returns-in_default-5 : goal.returns-in_default-5
returns-in_default-5 t c =
    let at = c.in_default in
    sym (ap (λ p. same_plan c.args.deep p (plan_of c.args.other.now)) (filter_of c.args.part.now at.field-0-0 at.field-1-0 at.is-0)
    ∙ filter_else c.args.deep (plan_of at.field-0-0.value) (expression_of at.field-1-0) c.args.other.now at.not-Filter-1)

pub returns-in_default-6 : goal.returns-in_default-6
returns-in_default-6 t c =
    let at = c.in_default in
    sym (ap (λ p. same_plan c.args.deep p (plan_of c.args.other.now)) (join_of c.args.part.now at.field-0-0 at.field-1-0 at.field-2-0 at.is-0)
    ∙ join_else c.args.deep (plan_of at.field-0-0.value) (plan_of at.field-1-0.value) at.field-2-0.items c.args.other.now at.not-Join-1)

pub returns-in_default-7 : goal.returns-in_default-7
returns-in_default-7 t c =
    let at = c.in_default in
    sym (else_differs c.args.deep c.args.part.now (plan_of c.args.other.now) at.not-Nodes-0 at.not-Rels-0 at.not-Project-0 at.not-Lookup-0 at.not-Filter-0 at.not-Join-0)
