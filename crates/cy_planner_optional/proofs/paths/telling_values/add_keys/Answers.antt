use Rattle.std.proofs.Common.{arith}
use Rattle.std.proofs.lemmas.Grind.{common_steps}
use Rattle.cy_planner_optional.proofs.CodeSteps.{alike_more}
use Rattle.cy_planner_optional.proofs.paths.telling_values.add_keys.Goals as goal

pub loop-more-preserved : goal.loop-more-preserved
loop-more-preserved c =
    let more = alike_more c.args.first c.loop-more.more in
    grind (arith, common_steps, more)
