use Rattle.std.proofs.Common.{◌≡◌, rules, [], ◌∷◌, ◌++◌, refl, arith}
use Rattle.std.proofs.lemmas.Grind.{common_steps}
use Rattle.cy_planner_algebra.specs.PlanModels.{plan_of}
use Rattle.cy_planner.specs.declared.outer_filters.OuterAbove.{OuterAbove}
use Rattle.cy_planner.specs.internal.OuterAbove.{put_outer_over}
use Rattle.cy_planner.proofs.Congruent.{equal_plans}
use Rattle.cy_planner.proofs.OuterPutting.{next_over, well_both, well_joined}
use Rattle.cy_planner.proofs.outer_filters.put_outer_over.Goals as goal

pub loop-joint-init : goal.loop-joint-init
loop-joint-init c = equal_plans (put_outer_over c.args.above.items (plan_of c.args.base)) (put_outer_over c.args.above.items (plan_of c.args.base)) refl

pub put_together-requires : goal.put_together-requires
put_together-requires c =
    let a : OuterAbove = c.in-Some.field-0 in
    let last : c.loop-joint.above.items ≡ c.pop.new.self.items ++ a ∷ [] = first_of (search rules, grind (arith, common_steps)) in
    well_joined (put_outer_over c.args.above.items (plan_of c.args.base)) (plan_of c.loop-joint.plan) c.loop-joint.above.items c.pop.new.self.items a last c.loop-joint.invariant c.requires

pub layered-requires : goal.layered-requires
layered-requires c =
    let a : OuterAbove = c.in-Some.field-0 in
    let last : c.loop-joint.above.items ≡ c.pop.new.self.items ++ a ∷ [] = first_of (search rules, grind (arith, common_steps)) in
    well_both (put_outer_over c.args.above.items (plan_of c.args.base)) (plan_of c.loop-joint.plan) c.loop-joint.above.items c.pop.new.self.items a last c.loop-joint.invariant (plan_of c.in_ok-both.both) c.in_ok-both.ensures c.requires

pub loop-joint-preserved : goal.loop-joint-preserved
loop-joint-preserved c =
    let a : OuterAbove = c.in-Some.field-0 in
    let last : c.loop-joint.above.items ≡ c.pop.new.self.items ++ a ∷ [] = first_of (search rules, grind (arith, common_steps)) in
    next_over (put_outer_over c.args.above.items (plan_of c.args.base)) (plan_of c.loop-joint.plan) c.loop-joint.above.items c.pop.new.self.items a last c.loop-joint.invariant
    (plan_of c.in_ok-both.both) (plan_of c.in_ok-plan.plan) c.in_ok-both.ensures c.in_ok-plan.ensures
