use Rattle.std.proofs.Common.{List, sym, subst, arith}
use Rattle.cy_planner_algebra.specs.Plans.{Plan}
use Rattle.cy_planner_algebra.specs.PlanModels.{plan_of}
use Rattle.cy_planner_rewriting.specs.internal.Layers.{layered}
use Rattle.cy_planner_rewriting.specs.Rewritten.{IsRewritten}
use Rattle.cy_planner_rewriting.specs.declared.layers.Layer.{Layer}
use Rattle.cy_planner_rewriting.proofs.Congruent.{same_plan}
use Rattle.cy_planner_rewriting.proofs.Layering.{part_replaced}
use Rattle.cy_planner.proofs.Together.{layer_off}
use Rattle.cy_planner.proofs.outer_filters.bases.layers_of.Goals as goal

pub loop-layer-init : goal.loop-layer-init
loop-layer-init c =
    let part : Plan = plan_of c.args.part in
    (subst (λ (ls : List Layer). IsRewritten part (layered ls part)) (sym c.new-layers.ensures.items) (same_plan part), omega arith)

pub loop-layer-preserved-in-Over : goal.loop-layer-preserved-in-Over
loop-layer-preserved-in-Over c =
    let less = c.in-Over.ensures.1 in
    let before = c.loop-layer.invariant.1 in (
      layer_off (plan_of c.args.part) (plan_of c.loop-layer.part) (plan_of c.in-Over.below) c.loop-layer.layers.items c.push.new.self.items c.in-Over.layer c.in-Over.ensures.0 c.in_ok-push-in-Over.ensures.items
          c.loop-layer.invariant.0,
      omega (arith, less, before),
    )

pub loop-layer-preserved : goal.loop-layer-preserved
loop-layer-preserved c =
    let less = c.in-Same.ensures.1 in
    let before = c.loop-layer.invariant.1 in
    (part_replaced (plan_of c.args.part) (plan_of c.loop-layer.part) (plan_of c.in-Same.other) c.loop-layer.layers.items c.in-Same.ensures.0 c.loop-layer.invariant.0, omega (arith, less, before))
