use Rattle.std.proofs.Common.{◌≡◌, ◌<◌, List, sym, subst, arith}
use Rattle.std.proofs.lemmas.Result.{IfOk-weaker}
use Rattle.cy_planner_algebra.specs.declared.operators.Operator.{size-Operator}
use Rattle.cy_planner_algebra.specs.Plans.{Plan}
use Rattle.cy_planner_algebra.specs.PlanModels.{plan_of}
use Rattle.cy_planner_algebra.specs.WellFormed.{IsWellFormed}
use Rattle.cy_planner_rewriting.specs.internal.Layers.{layered}
use Rattle.cy_planner_rewriting.specs.Rewritten.{IsRewritten}
use Rattle.cy_planner_rewriting.specs.declared.layers.Layer.{Layer}
use Rattle.cy_planner_rewriting.proofs.Congruent.{rewritten_again}
use Rattle.cy_planner.specs.internal.Standing.{StandsFor}
use Rattle.cy_planner.specs.declared.outer_filters.OuterAbove.{OuterAbove}
use Rattle.cy_planner.specs.internal.OuterAbove.{StandsBelowOuters, put_outer_over}
use Rattle.cy_planner_rewriting.specs.internal.Opened.{together}
use Rattle.cy_planner.proofs.Congruent.{on_graphs, stands_again}
use Rattle.cy_planner_rewriting.proofs.NarrowPutting.{well_sides}
use Rattle.cy_planner.proofs.Together.{no_layer, well_base}
use Rattle.cy_planner.proofs.OuterPutting.{stands_alone, stands_left}
use Rattle.cy_planner.proofs.outer_filters.+lowered.Goals as goal

pub loop-above-init : goal.loop-above-init
loop-above-init t c = (
  subst (λ (parts : List OuterAbove). StandsBelowOuters (plan_of c.args.part) parts (plan_of c.args.part)) (sym c.new-above.ensures.items) (stands_alone (plan_of c.args.part) c.requires),
  omega arith,
)

pub each_meant-requires : goal.each_meant-requires
each_meant-requires t c =
    let base : Plan = plan_of c.in_ok-layers.field-0.base in
    let well : IsWellFormed base = well_base (plan_of c.loop-above.part) base c.in_ok-layers.field-0.layers.items c.loop-above.invariant.0.good c.in_ok-layers.ensures.same in
    let both = rw c.in-Both.is at c.open_operator.ensures in
    subst IsWellFormed both.0 well

pub unreachable-requires : goal.unreachable-requires
unreachable-requires t c =
    let over = rw c.in-Over.is at c.open_operator.ensures in
    no_layer (plan_of c.in_ok-layers.field-0.base) c.in-Over.field-0 (plan_of c.in-Over.field-1) c.in_ok-layers.ensures.base over.0

pub layered-requires : goal.layered-requires
layered-requires t c =
    let part : Plan = plan_of c.loop-above.part in
    let ls : List Layer = c.in_ok-layers.field-0.layers.items in
    let opened : plan_of c.in_ok-layers.field-0.base ≡ plan_of c.in-Leaf.leaf = rw c.in-Leaf.is at c.open_operator.ensures in
    (subst (λ (q : Plan). IsRewritten part (layered ls q)) opened c.in_ok-layers.ensures.same).well_formed c.loop-above.invariant.0.good

pub put_outer_over-requires : goal.put_outer_over-requires
put_outer_over-requires t c =
    let part : Plan = plan_of c.loop-above.part in
    let ls : List Layer = c.in_ok-layers.field-0.layers.items in
    let leaf : Plan = plan_of c.in-Leaf.leaf in
    let made : Plan = plan_of c.in_ok-plan-in-Leaf.plan in
    let opened : plan_of c.in_ok-layers.field-0.base ≡ leaf = rw c.in-Leaf.is at c.open_operator.ensures in
    let before : IsRewritten part (layered ls leaf) = subst (λ (q : Plan). IsRewritten part (layered ls q)) opened c.in_ok-layers.ensures.same in
    (c.loop-above.invariant.0.placed made (on_graphs part made (rewritten_again part (layered ls leaf) made before c.in_ok-plan-in-Leaf.ensures))).well_formed c.requires

pub returns-in-Leaf : goal.returns-in-Leaf
returns-in-Leaf t c =
    let whole : Plan = plan_of c.args.part in
    let part : Plan = plan_of c.loop-above.part in
    let ls : List Layer = c.in_ok-layers.field-0.layers.items in
    let leaf : Plan = plan_of c.in-Leaf.leaf in
    let made : Plan = plan_of c.in_ok-plan-in-Leaf.plan in
    let opened : plan_of c.in_ok-layers.field-0.base ≡ leaf = rw c.in-Leaf.is at c.open_operator.ensures in
    let before : IsRewritten part (layered ls leaf) = subst (λ (q : Plan). IsRewritten part (layered ls q)) opened c.in_ok-layers.ensures.same in
    let all : StandsFor whole (put_outer_over c.loop-above.above.items made) = c.loop-above.invariant.0.placed made (on_graphs part made (rewritten_again part (layered ls leaf) made before c.in_ok-plan-in-Leaf.ensures)) in
    IfOk-weaker c.put_outer_over.result _ _ (λ p is. stands_again whole (put_outer_over c.loop-above.above.items made) (plan_of p) all is) c.put_outer_over.ensures

pub loop-above-preserved : goal.loop-above-preserved
loop-above-preserved t c =
    let base : Plan = plan_of c.in_ok-layers.field-0.base in
    let left : Plan = plan_of c.in-Both.left in
    let right : Plan = plan_of c.in-Both.right in
    let a : OuterAbove = record { joint = c.in-Both.joint; right = c.in_ok-right-in-Both.right; layers = c.in_ok-layers.field-0.layers } in
    let both = rw c.in-Both.is at c.open_operator.ensures in
    let opened : base ≡ together c.in-Both.joint left right = both.0 in
    let whole : IsWellFormed base = well_base (plan_of c.loop-above.part) base c.in_ok-layers.field-0.layers.items c.loop-above.invariant.0.good c.in_ok-layers.ensures.same in
    let well = well_sides c.in-Both.joint left right (subst IsWellFormed opened whole) in
    let less : size-Operator c.in-Both.left < size-Operator c.in_ok-layers.field-0.base = both.1 in
    let no_deeper = c.in_ok-layers.ensures.no_deeper in
    let before = c.loop-above.invariant.1 in (
      stands_left (plan_of c.args.part) (plan_of c.loop-above.part) base left right c.push.new.self.items c.loop-above.above.items a c.loop-above.invariant.0 c.in_ok-layers.ensures.same opened well.0
          c.in_ok-right-in-Both.ensures c.in_ok-push-in-Both.ensures.items,
      omega (arith, less, no_deeper, before),
    )
