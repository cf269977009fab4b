use Rattle.std.proofs.Common.{◌≡◌, ℕ, rules, List, map, arith}
use Rattle.std.proofs.lemmas.Grind.{common_steps}
use Rattle.cy_planner_algebra.specs.Plans.{Plan}
use Rattle.cy_planner_algebra.specs.PlanModels.{plan_of}
use Rattle.cy_planner_rows.specs.Renumbered.{new_column}
use Rattle.cy_planner_rewriting.proofs.Made.{different_as, different_over}
use Rattle.cy_planner_rewriting.proofs.narrowing.layers.all_different.Goals as goal

pub all_different-requires : goal.all_different-requires
all_different-requires c =
    let columns : List ℕ = c.args.below.columns.items in
    let made : c.in_ok-members.members.items ≡ map (new_column columns) c.args.members.items = first_of (search rules, grind (arith, common_steps)) in
    different_over (plan_of c.args.below.plan) columns c.args.members.items c.in_ok-members.members.items c.requires made

pub returns : goal.returns
returns c =
    let p : Plan = plan_of c.args.below.plan in
    let columns : List ℕ = c.args.below.columns.items in
    let made : c.in_ok-members.members.items ≡ map (new_column columns) c.args.members.items = first_of (search rules, grind (arith, common_steps)) in
    different_as p columns c.args.members.items c.in_ok-members.members.items c.requires made (plan_of c.in_ok-plan.plan) c.in_ok-plan.ensures
