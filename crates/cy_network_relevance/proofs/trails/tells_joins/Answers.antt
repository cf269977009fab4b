use Rattle.std.proofs.Common.{◌≡◌, map, sym, ap, ◌∙◌, false}
use Rattle.cy_planner_algebra.specs.declared.operators.Operator.TheFolds.{fold-roll-Operator}
use Rattle.cy_planner_algebra.specs.declared.operators.Operator.TheVariants.{rolls-Join}
use Rattle.cy_planner_algebra.specs.Plans as plan
use Rattle.cy_planner_algebra.specs.Plans.{Plan}
use Rattle.cy_planner_algebra.specs.PlanModels.{output_of, plan_of, plan_step}
use Rattle.cy_network_relevance.proofs.Told.{joins_told}
use Rattle.std.specs.Option.{option_map_or}
use Rattle.cy_network_relevance.specs.Trails.{tells_joins}
use Rattle.cy_network_relevance.proofs.Elsewhere.{joins_else}
use Rattle.cy_network_relevance.proofs.trails.tells_joins.Goals as goal

pub returns-in-Join : goal.returns-in-Join
returns-in-Join c =
    let is : plan_of c.loop-part.part.now ≡ plan.join (plan_of c.in-Join.left.value) (plan_of c.in-Join.right.value) c.in-Join.keys.items =
    ap plan_of (c.in-Join.is ∙ sym (rolls-Join c.in-Join.left c.in-Join.right c.in-Join.keys)) ∙ fold-roll-Operator Plan plan_step _ in
    c.tells_joined.ensures
    ∙ joins_told (plan_of c.loop-part.part.now) (plan_of c.in-Join.left.value) (plan_of c.in-Join.right.value) (plan_of c.deref.result.now) (plan_of c.deref-in-Join.result.now) c.in-Join.keys.items c.deref-in-Join-2.result.now
    (map output_of c.args.outputs.now) is (ap plan_of c.deref.ensures) (ap plan_of c.deref-in-Join.ensures) c.deref-in-Join-2.ensures.value
    ∙ sym c.loop-part.invariant.1

pub returns-in-None : goal.returns-in-None
returns-in-None c =
    let outputs = map output_of c.args.outputs.now in
    sym (c.loop-part.invariant.1 ∙ joins_else c.loop-part.part.now outputs c.in_default.not-Join
    ∙ ap (λ q. option_map_or (λ p. tells_joins p outputs) q false) (sym c.in-None.ensures.plan))
