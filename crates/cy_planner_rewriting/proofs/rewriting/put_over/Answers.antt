use Rattle.std.proofs.Common.{◌≡◌, rules, [], ◌∷◌, ◌++◌, arith}
use Rattle.std.proofs.lemmas.Grind.{common_steps}
use Rattle.cy_planner_algebra.specs.PlanModels.{plan_of}
use Rattle.cy_planner_rewriting.specs.declared.rewriting.Above.{Above}
use Rattle.cy_planner_rewriting.specs.internal.Above.{put_over}
use Rattle.cy_planner_rewriting.proofs.Putting.{next_over, well_lowest}
use Rattle.cy_planner_rewriting.proofs.rewriting.put_over.Goals as goal

pub put_together-requires : goal.put_together-requires
put_together-requires c =
    let a : Above = c.in-Some.field-0 in
    let last : c.loop-joint.above.items ≡ c.pop.new.self.items ++ a ∷ [] = first_of (search rules, grind (arith, common_steps)) in
    well_lowest (put_over c.args.above.items (plan_of c.args.base)) (plan_of c.loop-joint.plan) c.loop-joint.above.items c.pop.new.self.items a last c.loop-joint.invariant c.requires

pub loop-joint-preserved : goal.loop-joint-preserved
loop-joint-preserved c =
    let a : Above = c.in-Some.field-0 in
    let last : c.loop-joint.above.items ≡ c.pop.new.self.items ++ a ∷ [] = first_of (search rules, grind (arith, common_steps)) in
    next_over (put_over c.args.above.items (plan_of c.args.base)) (plan_of c.loop-joint.plan) c.loop-joint.above.items c.pop.new.self.items a last c.loop-joint.invariant (plan_of c.in_ok-plan.plan) c.in_ok-plan.ensures
