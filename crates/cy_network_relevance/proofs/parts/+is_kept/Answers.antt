use Rattle.std.proofs.Common.{◌≡◌, sym, ap, subst, ◌∙◌, arith}
use Rattle.cy_planner_algebra.specs.declared.operators.Operator.{Operator}
use Rattle.cy_planner_algebra.specs.declared.operators.Operator.TheFolds.{fold-roll-Operator}
use Rattle.cy_planner_algebra.specs.declared.operators.Operator.TheVariants.{rolls-Lookup}
use Rattle.cy_planner_algebra.specs.Plans as plan
use Rattle.cy_planner_algebra.specs.Plans.{Plan}
use Rattle.cy_planner_algebra.specs.PlanModels.{plan_of, plan_step}
use Rattle.cy_network_relevance.specs.internal.Kept.{IsAbsent, IsUnchanged}
use Rattle.cy_network_relevance.proofs.Elsewhere.{Both, unchanged_else}
use Rattle.cy_network_relevance.proofs.Rules.{unchanged_absent_lookup}
use Rattle.cy_network_relevance.proofs.parts.+is_kept.Goals as goal

pub returns-then-makes_nothing : goal.returns-then-makes_nothing
returns-then-makes_nothing t c = λ yes.
    let e = c.args.entity.now in
    let p = plan_of c.in-Lookup.below.value in
    let is : plan_of c.loop-part.part.now ≡ plan.lookup p c.in-Lookup.column c.in-Lookup.attribute =
    ap plan_of (c.in-Lookup.is ∙ sym (rolls-Lookup c.in-Lookup.below c.in-Lookup.column c.in-Lookup.attribute)) ∙ fold-roll-Operator Plan plan_step _ in
    c.loop-part.invariant.0 (subst (IsUnchanged e) (sym is) (unchanged_absent_lookup e p c.in-Lookup.column c.in-Lookup.attribute c.if-column-eq0.true
    (subst (λ (q : Operator). IsAbsent e (plan_of q)) c.deref-then-not-asked.ensures (c.makes_nothing.ensures c.if-makes_nothing.true))))

pub returns-in-None : goal.returns-in-None
returns-in-None t c = λ yes.
    let e = c.args.entity.now in
    c.loop-part.invariant.0 (unchanged_else c.loop-part.part.now e c.in_default.not-Nodes c.in_default.not-Rels c.in_default.not-Lookup (subst (Both (IsUnchanged e)) c.in-None.ensures.plans tt))

pub loop-part-preserved-in-One : goal.loop-part-preserved-in-One
loop-part-preserved-in-One t c =
    let e = c.args.entity.now in
    let less = c.in-One.ensures.smaller in
    let within = c.loop-part.invariant.1 in (
      λ below. c.loop-part.invariant.0 (unchanged_else c.loop-part.part.now e c.in_default.not-Nodes c.in_default.not-Rels c.in_default.not-Lookup (subst (Both (IsUnchanged e)) c.in-One.ensures.plans below)),
      omega (arith, less, within),
    )
