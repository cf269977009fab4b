use Rattle.std.proofs.Common.{◌≡◌, ◌<◌, List, sym, subst, arith}
use Rattle.std.proofs.lemmas.Result.{IfOk-weaker}
use Rattle.cy_planner_algebra.specs.declared.operators.Operator.{size-Operator}
use Rattle.cy_planner_algebra.specs.Plans.{Plan}
use Rattle.cy_planner_algebra.specs.PlanModels.{plan_of}
use Rattle.cy_planner_rewriting.specs.Rewritten.{IsRewritten}
use Rattle.cy_planner_rewriting.proofs.Congruent.{rewritten_again}
use Rattle.cy_planner_rewriting.specs.declared.narrowing.Above.{Above}
use Rattle.cy_planner_rewriting.specs.internal.NarrowAbove.{StandsBelow, over_all}
use Rattle.cy_planner_rewriting.specs.internal.Narrows.{restored}
use Rattle.cy_planner_rewriting.proofs.NarrowPutting.{lowest_in_place, stands_alone, stands_left, stands_under}
use Rattle.cy_planner_rewriting.proofs.narrowing.+narrow.Goals as goal

pub loop-plan-init : goal.loop-plan-init
loop-plan-init t c = (
  subst (λ (rest : List Above). StandsBelow (plan_of c.args.part) rest (plan_of c.args.part)) (sym c.new-above.ensures.items) (stands_alone (plan_of c.args.part) c.requires),
  omega arith,
)

pub put_over-requires : goal.put_over-requires
put_over-requires t c =
    let whole : Plan = plan_of c.args.part in
    let part : Plan = plan_of c.loop-plan.part in
    let base : Plan = restored c.in_ok-base-in-Leaf.base in
    let leaf : part ≡ plan_of c.in-Leaf.plan = rw c.in-Leaf.is at c.open_operator.ensures in
    let here : IsRewritten part base = subst (λ (o : Plan). IsRewritten o base) (sym leaf) c.in_ok-base-in-Leaf.ensures in
    (lowest_in_place whole part base c.loop-plan.above.items c.loop-plan.invariant.0 here).well_formed c.requires

pub returns-in-Leaf : goal.returns-in-Leaf
returns-in-Leaf t c =
    let whole : Plan = plan_of c.args.part in
    let part : Plan = plan_of c.loop-plan.part in
    let base : Plan = restored c.in_ok-base-in-Leaf.base in
    let rest : List Above = c.loop-plan.above.items in
    let leaf : part ≡ plan_of c.in-Leaf.plan = rw c.in-Leaf.is at c.open_operator.ensures in
    let here : IsRewritten part base = subst (λ (o : Plan). IsRewritten o base) (sym leaf) c.in_ok-base-in-Leaf.ensures in
    IfOk-weaker c.put_over.result _ _ (λ n is. rewritten_again whole (over_all rest base) (restored n) (lowest_in_place whole part base rest c.loop-plan.invariant.0 here) is) c.put_over.ensures

pub loop-plan-preserved-in-Over : goal.loop-plan-preserved-in-Over
loop-plan-preserved-in-Over t c =
    let whole : Plan = plan_of c.args.part in
    let part : Plan = plan_of c.loop-plan.part in
    let below : Plan = plan_of c.in-Over.below in
    let opened = rw c.in-Over.is at c.open_operator.ensures in
    let less : size-Operator c.in-Over.below < size-Operator c.loop-plan.part = opened.1 in
    let before = c.loop-plan.invariant.1 in (
      stands_under whole part below c.push.new.self.items c.loop-plan.above.items c.in-Over.layer c.in_ok-push-in-Over.ensures.items c.loop-plan.invariant.0 opened.0,
      omega (arith, less, before),
    )

pub loop-plan-preserved : goal.loop-plan-preserved
loop-plan-preserved t c =
    let whole : Plan = plan_of c.args.part in
    let part : Plan = plan_of c.loop-plan.part in
    let left : Plan = plan_of c.in-Both.left in
    let right : Plan = plan_of c.in-Both.right in
    let opened = rw c.in-Both.is at c.open_operator.ensures in
    let less : size-Operator c.in-Both.left < size-Operator c.loop-plan.part = opened.1 in
    let before = c.loop-plan.invariant.1 in (
      stands_left whole part left right c.push-in-Both.new.self.items c.loop-plan.above.items c.in-Both.joint c.in_ok-right-in-Both.right c.in_ok-push-in-Both.ensures.items c.loop-plan.invariant.0 opened.0
          c.in_ok-right-in-Both.ensures,
      omega (arith, less, before),
    )
