use Rattle.std.proofs.Common.{◌≡◌, ℕ, List, [], sym, ap, subst, rules, arith}
use Rattle.std.proofs.lemmas.Grind.{common_steps}
use Rattle.cy_trees.specs.Trees.{Expression}
use Rattle.cy_planner_algebra.specs.Plans.{Plan}
use Rattle.cy_planner_algebra.specs.PlanModels.{plan_of}
use Rattle.cy_planner_pushdown.specs.internal.Above.{placed}
use Rattle.cy_planner_pushdown.specs.internal.Pushed.{IsSifted}
use Rattle.cy_planner_pushdown.specs.internal.Tests.{are_true, tests_of}
use Rattle.cy_planner_pushdown.proofs.SiftedPlans.{sifted_itself}
use Rattle.cy_planner_pushdown.proofs.pushing.put_back.Goals as goal

pub returns-then-is_empty : goal.returns-then-is_empty
returns-then-is_empty c =
    let over : Plan = placed c.args.frame.above (plan_of c.args.below) in
    let made : Plan = plan_of c.in_ok-plan.plan in
    let empty : c.args.frame.here.items ≡ [] = first_of (search rules, grind (arith, common_steps)) in
    subst (λ (ts : List (List ℕ × Expression)). IsSifted over (are_true ts) made) (sym (ap tests_of empty))
    (subst (λ (p : Plan). IsSifted p (are_true []) made) c.in_ok-plan.ensures (sifted_itself made))
