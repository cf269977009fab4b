use Rattle.std.proofs.Common.{◌+◌, ◌≤◌, rules, length, arith}
use Rattle.std.proofs.lemmas.Grind.{common_steps}
use Rattle.std.proofs.lemmas.Result.{IfOk-weaker}
use Rattle.cy_planner_algebra.specs.WellFormed.{greatest_width}
use Rattle.cy_planner_rewriting.proofs.Sides.{if_some_map}
use Rattle.cy_planner_rewriting.proofs.lookups.below_projection.Goals as goal

pub returns : goal.returns
returns c =
    let room : c.args.width + length c.args.lookups.now ≤ greatest_width = first_of (search rules, grind (arith, common_steps)) in
    IfOk-weaker c.all_moved.result _ _ (λ made is. if_some_map made _ _ (λ ms moved. (moved, room)) is) c.all_moved.ensures
