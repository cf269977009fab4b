use Rattle.std.proofs.Common.{◌≡◌, rules, [], ◌∷◌, ◌++◌, arith}
use Rattle.std.proofs.lemmas.Grind.{common_steps}
use Rattle.cy_planner_algebra.specs.PlanModels.{plan_of}
use Rattle.cy_planner_rewriting.specs.internal.Layers.{layered}
use Rattle.cy_planner_rewriting.proofs.Layering.{next_layer, well_layer}
use Rattle.cy_planner_rewriting.proofs.parts.layered.Goals as goal

pub with_layer-requires : goal.with_layer-requires
with_layer-requires c =
    let last : c.loop-layer.layers.items ≡ c.pop.new.self.items ++ c.in-Some.layer ∷ [] = first_of (search rules, grind (arith, common_steps)) in
    well_layer (layered c.args.layers.items (plan_of c.args.base)) (plan_of c.loop-layer.plan) c.loop-layer.layers.items c.pop.new.self.items c.in-Some.layer last c.requires c.loop-layer.invariant

pub loop-layer-preserved : goal.loop-layer-preserved
loop-layer-preserved c =
    let last : c.loop-layer.layers.items ≡ c.pop.new.self.items ++ c.in-Some.layer ∷ [] = first_of (search rules, grind (arith, common_steps)) in
    next_layer (layered c.args.layers.items (plan_of c.args.base)) (plan_of c.loop-layer.plan) (plan_of c.in_ok-plan.plan) c.loop-layer.layers.items c.pop.new.self.items c.in-Some.layer last c.loop-layer.invariant c.in_ok-plan.ensures
