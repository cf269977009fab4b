use Rattle.std.proofs.Common.{◌≡◌, rules, [], ◌∷◌, ◌++◌, sym, ap, subst, ◌∙◌, arith}
use Rattle.std.proofs.lemmas.Grind.{common_steps}
use Rattle.cy_planner_algebra.specs.PlanModels.{plan_of}
use Rattle.cy_planner_algebra.specs.WellFormed.{IsWellFormed}
use Rattle.cy_planner_pushdown.specs.internal.Above.{placed_over}
use Rattle.cy_planner_pushdown.proofs.Placing.{lowest_off, well_lowest}
use Rattle.cy_planner_pushdown.proofs.above.placed_over.Goals as goal

pub placed-requires : goal.placed-requires
placed-requires c =
    let last : c.loop-part.above.items ≡ c.pop.new.self.items ++ c.in-Some.part ∷ [] = first_of (search rules, grind (arith, common_steps)) in
    well_lowest c.loop-part.above.items c.pop.new.self.items c.in-Some.part (plan_of c.loop-part.plan) last (subst IsWellFormed (sym c.loop-part.invariant) c.requires)

pub loop-part-preserved : goal.loop-part-preserved
loop-part-preserved c =
    let last : c.loop-part.above.items ≡ c.pop.new.self.items ++ c.in-Some.part ∷ [] = first_of (search rules, grind (arith, common_steps)) in
    ap (placed_over c.pop.new.self.items) c.in_ok-plan.ensures
    ∙ sym (lowest_off c.loop-part.above.items c.pop.new.self.items c.in-Some.part (plan_of c.loop-part.plan) last)
    ∙ c.loop-part.invariant
