use Rattle.std.proofs.Common.{◌≡◌, ◌≤◌, arith}
use Rattle.cy_planner_algebra.specs.Plans.{Plan, width}
use Rattle.cy_planner_algebra.specs.PlanModels.{plan_of}
use Rattle.cy_planner_pushdown.proofs.Moves.{keys_left}
use Rattle.cy_planner_pushdown.proofs.columns.column_on_left.Goals as goal

pub returns-else-column-inputs : goal.returns-else-column-inputs
returns-else-column-inputs c =
    let left : Plan = plan_of c.args.inputs.now.left.now in
    let wide : c.args.inputs.now.left_width ≡ width left = c.args.inputs.now.left_wide in
    let least : width left ≤ c.args.column = let after = c.if-column-inputs.false in omega (arith, wide, after) in
    keys_left left (plan_of c.args.inputs.now.right.now) c.args.inputs.now.keys.now c.args.column c.args.inputs.now.left_width wide least c.left_key.result c.left_key.ensures
