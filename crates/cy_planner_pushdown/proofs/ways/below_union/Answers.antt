use Rattle.cy_planner_algebra.specs.Plans as plan
use Rattle.cy_planner_algebra.specs.Plans.{Plan}
use Rattle.cy_planner_algebra.specs.PlanModels.{plan_of}
use Rattle.cy_planner_pushdown.specs.declared.above.Pair.TheVariants as pair
use Rattle.cy_planner_pushdown.specs.internal.Splits.{tests_in}
use Rattle.cy_planner_pushdown.specs.internal.Pairs.{paired}
use Rattle.cy_planner_pushdown.proofs.Stepping.{at_places, into_union}
use Rattle.cy_planner_pushdown.proofs.ways.below_union.Goals as goal

pub returns-clause-is : goal.returns-clause-is
returns-clause-is c tests split =
    let left : Plan = plan_of c.args.left.value in
    let right : Plan = plan_of c.args.right.value in
    let ts = tests_in c.args.split in
    at_places (plan.union left right) tests ts.here (paired pair.Union) c.args.left.value c.args.right.value c.args.split.first c.args.split.second c.at-left.result c.at-right.result c.at-left.ensures.part c.at-left.ensures.tests c.at-right.ensures.part c.at-right.ensures.tests
    (into_union tests ts left right c.requires.good split)
