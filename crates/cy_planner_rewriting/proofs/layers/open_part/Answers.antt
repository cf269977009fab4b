use Rattle.std.proofs.Common.{◌≡◌, rules, [], sym, ap, ◌∙◌, arith}
use Rattle.std.proofs.lemmas.Grind.{common_steps}
use Rattle.cy_planner_algebra.specs.declared.operators.Operator.{the_lemmas}
use Rattle.cy_planner_algebra.specs.declared.operators.Operator.TheFolds.{fold-roll-Operator}
use Rattle.cy_planner_algebra.specs.declared.operators.Operator.TheOpen.{Operator-F}
use Rattle.cy_planner_algebra.specs.declared.operators.Operator.TheVariants as operator
use Rattle.cy_planner_algebra.specs.declared.operators.Operator.TheVariants.{rolls-Join, rolls-Unit}
use Rattle.cy_planner_algebra.specs.Fields.{operator_of}
use Rattle.cy_planner_algebra.specs.Plans as plan
use Rattle.cy_planner_algebra.specs.Plans.{Plan}
use Rattle.cy_planner_algebra.specs.PlanModels.{plan_of, plan_step}
use Rattle.cy_planner_rewriting.proofs.Congruent.{put_together}
use Rattle.cy_planner_rewriting.proofs.Rules.{join_with_unit}
use Rattle.cy_planner_rewriting.proofs.layers.open_part.Goals as goal

pub returns-then-is_unit : goal.returns-then-is_unit
returns-then-is_unit c =
    let right : Plan = plan_of c.in-Join.right.value in
    let no_keys : c.in-Join.keys.items ≡ [] = first_of (search rules, grind (arith, common_steps)) in
    let is_unit : c.in-Join.left.value ≡ operator.Unit = first_of (search rules, grind (arith, common_steps)) in
    let left : plan_of c.in-Join.left.value ≡ plan.unit = ap plan_of (is_unit ∙ sym rolls-Unit) ∙ fold-roll-Operator Plan plan_step Operator-F.Unit in
    let part : plan_of c.args.part ≡ plan.join (plan_of c.in-Join.left.value) right c.in-Join.keys.items = ap plan_of (c.into_fields.ensures ∙ ap operator_of c.in-Join.is) ∙ ap plan_of (sym (rolls-Join c.in-Join.left c.in-Join.right c.in-Join.keys)) ∙ fold-roll-Operator Plan plan_step (Operator-F.Join c.in-Join.left c.in-Join.right c.in-Join.keys) in
    let whole : plan_of c.args.part ≡ plan.join plan.unit right [] = part ∙ (λ i. plan.join (left i) right (no_keys i)) in
    (put_together (plan_of c.args.part) (plan.join plan.unit right []) right (plan_of c.into_inner-then-is_unit.result) whole (join_with_unit right) (ap plan_of c.into_inner-then-is_unit.ensures), search (rules, the_lemmas))
