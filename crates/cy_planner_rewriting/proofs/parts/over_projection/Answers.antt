use Rattle.std.proofs.Common.{map}
use Rattle.std.proofs.lemmas.Result.{IfOk-weaker}
use Rattle.cy_planner_algebra.specs.Plans as plan
use Rattle.cy_planner_algebra.specs.Plans.{Plan}
use Rattle.cy_planner_algebra.specs.PlanModels.{output_of, plan_of}
use Rattle.cy_planner_rewriting.specs.declared.layers.Layer.TheVariants as layer
use Rattle.cy_planner_rewriting.specs.internal.Layers.{layered}
use Rattle.cy_planner_rewriting.specs.Rewritten.{IsRewritten}
use Rattle.cy_planner_rewriting.proofs.Congruent.{rewritten_again}
use Rattle.cy_planner_rewriting.proofs.Layering.{placed_below}
use Rattle.cy_planner_rewriting.proofs.parts.over_projection.Goals as goal

pub layered-requires : goal.layered-requires
layered-requires c =
    (placed_below c.args.layers.items c.add_projection.new.layers.items (layer.Project c.args.outputs) (plan_of c.args.base) c.requires (c.in_ok-add_projection.ensures (plan_of c.args.base))).well_formed c.requires

pub returns : goal.returns
returns c =
    let base : Plan = plan_of c.args.base in
    let whole : Plan = layered c.args.layers.items (plan.project base (map output_of c.args.outputs.items)) in
    let put : IsRewritten whole (layered c.add_projection.new.layers.items base) = placed_below c.args.layers.items c.add_projection.new.layers.items (layer.Project c.args.outputs) base c.requires (c.in_ok-add_projection.ensures base) in
    IfOk-weaker c.layered.result _ _ (λ p is. rewritten_again whole (layered c.add_projection.new.layers.items base) (plan_of p) put is) c.layered.ensures
