use Rattle.std.proofs.Common.{◌≡◌, ◌<◌, arith}
use Rattle.cy_planner_algebra.specs.Plans.{Plan, width}
use Rattle.cy_planner_algebra.specs.PlanModels.{plan_of}
use Rattle.cy_planner_pushdown.proofs.Moves.{keys_right}
use Rattle.cy_planner_pushdown.proofs.columns.column_on_right.Goals as goal

pub returns-then-column-inputs : goal.returns-then-column-inputs
returns-then-column-inputs c =
    let left : Plan = plan_of c.args.inputs.now.left.now in
    let wide : c.args.inputs.now.left_width ≡ width left = c.args.inputs.now.left_wide in
    let less : c.args.column < width left = let before = c.if-column-inputs.true in omega (arith, wide, before) in
    keys_right left (plan_of c.args.inputs.now.right.now) c.args.inputs.now.keys.now c.args.column less c.right_key.result c.right_key.ensures
