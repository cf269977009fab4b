use Rattle.std.proofs.Common.{◌≡◌, sym, ap, ◌∙◌, false}
use Rattle.cy_planner_algebra.specs.declared.operators.Operator.TheFolds.{fold-roll-Operator}
use Rattle.cy_planner_algebra.specs.declared.operators.Operator.TheVariants.{rolls-Join}
use Rattle.cy_planner_algebra.specs.Plans as plan
use Rattle.cy_planner_algebra.specs.Plans.{Plan}
use Rattle.cy_planner_algebra.specs.PlanModels.{plan_of, plan_step}
use Rattle.cy_network_relevance.proofs.RowKeys.{no_right_key}
use Rattle.std.specs.Option.{option_map_or}
use Rattle.cy_network_relevance.specs.Trails.{has_key}
use Rattle.cy_network_relevance.proofs.Elsewhere.{key_else}
use Rattle.cy_network_relevance.proofs.keys.+has_key.Goals as goal

pub returns-then-not-has_key : goal.returns-then-not-has_key
returns-then-not-has_key t c =
    let is : plan_of c.loop-part.part.now ≡ plan.join (plan_of c.in-Join.left.value) (plan_of c.in-Join.right.value) c.in-Join.field-2.items =
    ap plan_of (c.in-Join.is ∙ sym (rolls-Join c.in-Join.left c.in-Join.right c.in-Join.field-2)) ∙ fold-roll-Operator Plan plan_step _ in
    sym (c.loop-part.invariant.1
    ∙ no_right_key (plan_of c.loop-part.part.now) (plan_of c.in-Join.left.value) (plan_of c.in-Join.right.value) (plan_of c.deref.result.now) c.in-Join.field-2.items is (ap plan_of c.deref.ensures)
    (sym c.has_key.ensures ∙ c.if-not-has_key.true))

pub returns-in-None : goal.returns-in-None
returns-in-None t c =
    sym (c.loop-part.invariant.1 ∙ key_else c.loop-part.part.now c.in_default.not-Unit c.in_default.not-Nodes c.in_default.not-Rels c.in_default.not-Join c.in_default.not-Lookup c.in_default.not-Project
    ∙ ap (λ q. option_map_or has_key q false) (sym c.in-None.ensures.plan))
