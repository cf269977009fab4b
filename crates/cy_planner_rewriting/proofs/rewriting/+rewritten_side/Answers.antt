use Rattle.std.proofs.Common.{◌≡◌, ◌<◌, List, sym, subst, arith}
use Rattle.std.proofs.lemmas.Result.{IfOk-weaker}
use Rattle.cy_planner_algebra.specs.declared.operators.Operator.{size-Operator}
use Rattle.cy_planner_algebra.specs.Plans.{Plan}
use Rattle.cy_planner_algebra.specs.PlanModels.{plan_of}
use Rattle.cy_planner_rows.specs.declared.places.Wanted.{Wanted}
use Rattle.cy_planner_rows.specs.internal.Lookups.{over}
use Rattle.cy_planner_rewriting.specs.declared.layers.Layer.{Layer}
use Rattle.cy_planner_rewriting.specs.declared.rewriting.Above.{Above}
use Rattle.cy_planner_rewriting.specs.internal.Above.{StandsBelow, put_over}
use Rattle.cy_planner_rewriting.specs.internal.Layers.{layered}
use Rattle.cy_planner_rewriting.specs.internal.Splits.{AreSides, side_plan}
use Rattle.cy_planner_rewriting.specs.Rewritten.{IsRewritten}
use Rattle.cy_planner_rewriting.proofs.Congruent.{rewritten_again}
use Rattle.cy_planner_rewriting.proofs.Layering.{well_below}
use Rattle.cy_planner_rewriting.proofs.Putting.{stands_alone, stands_left}
use Rattle.cy_planner_rewriting.proofs.rewriting.+rewritten_side.Goals as goal

pub loop-above-init : goal.loop-above-init
loop-above-init t c = (
  subst (λ (parts : List Above). StandsBelow (side_plan c.args.side) parts (side_plan c.args.side)) (sym c.new-above.ensures.items) (stands_alone (side_plan c.args.side) c.requires),
  omega arith,
)

pub split_base-requires-clause-good : goal.split_base-requires-clause-good
split_base-requires-clause-good t c =
    well_below c.in_ok-layers.field-0.layers.items (over (plan_of c.in_ok-layers.field-0.base) c.in_ok-layers.field-0.lookups.items) (c.in_ok-layers.ensures.same.well_formed c.loop-above.invariant.0.good)

pub put_over-requires : goal.put_over-requires
put_over-requires t c =
    let part : Plan = side_plan c.loop-above.side in
    let ls : List Layer = c.in_ok-layers.field-0.layers.items in
    let base : Plan = over (plan_of c.in_ok-layers.field-0.base) c.in_ok-layers.field-0.lookups.items in
    let leaf : plan_of c.in-Leaf.base ≡ base = rw c.in-Leaf.is at c.in_ok-base.ensures.is in
    let before : IsRewritten part (layered ls (plan_of c.in-Leaf.base)) = subst (λ (q : Plan). IsRewritten part (layered ls q)) (sym leaf) c.in_ok-layers.ensures.same in
    (c.loop-above.invariant.0.placed (plan_of c.in_ok-plan-in-Leaf.plan) (rewritten_again part (layered ls (plan_of c.in-Leaf.base)) (plan_of c.in_ok-plan-in-Leaf.plan) before c.in_ok-plan-in-Leaf.ensures)).well_formed c.requires

pub returns-in-Leaf : goal.returns-in-Leaf
returns-in-Leaf t c =
    let whole : Plan = side_plan c.args.side in
    let part : Plan = side_plan c.loop-above.side in
    let ls : List Layer = c.in_ok-layers.field-0.layers.items in
    let base : Plan = over (plan_of c.in_ok-layers.field-0.base) c.in_ok-layers.field-0.lookups.items in
    let made : Plan = plan_of c.in_ok-plan-in-Leaf.plan in
    let leaf : plan_of c.in-Leaf.base ≡ base = rw c.in-Leaf.is at c.in_ok-base.ensures.is in
    let before : IsRewritten part (layered ls (plan_of c.in-Leaf.base)) = subst (λ (q : Plan). IsRewritten part (layered ls q)) (sym leaf) c.in_ok-layers.ensures.same in
    let all : IsRewritten whole (put_over c.loop-above.above.items made) = c.loop-above.invariant.0.placed made (rewritten_again part (layered ls (plan_of c.in-Leaf.base)) made before c.in_ok-plan-in-Leaf.ensures) in
    IfOk-weaker c.put_over.result _ _ (λ p is. rewritten_again whole (put_over c.loop-above.above.items made) (plan_of p) all is) c.put_over.ensures

pub loop-above-preserved : goal.loop-above-preserved
loop-above-preserved t c =
    let base : Plan = plan_of c.in_ok-layers.field-0.base in
    let ws : List Wanted = c.in_ok-layers.field-0.lookups.items in
    let a : Above = record { joint = c.in-Both.joint; right = c.in_ok-right-in-Both.right; layers = c.in_ok-layers.field-0.layers } in
    let sides : AreSides base ws c.in-Both.joint c.in-Both.left c.in-Both.right = rw c.in-Both.is at c.in_ok-base.ensures.is in
    let depth = rw c.in-Both.is at c.in_ok-base.ensures.depth in
    let less : size-Operator c.in-Both.left.part < size-Operator c.in_ok-layers.field-0.base = depth.0 in
    let no_deeper = c.in_ok-layers.ensures.no_deeper in
    let before = c.loop-above.invariant.1 in (
      stands_left (side_plan c.args.side) (side_plan c.loop-above.side) base ws c.push.new.self.items c.loop-above.above.items a c.in-Both.left c.in-Both.right c.loop-above.invariant.0 c.in_ok-layers.ensures.same
          sides c.in_ok-right-in-Both.ensures c.in_ok-push-in-Both.ensures.items,
      omega (arith, less, no_deeper, before),
    )
