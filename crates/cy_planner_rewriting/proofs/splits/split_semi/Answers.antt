use Rattle.cy_planner_rewriting.proofs.SemiJoins.{semi_sides}
use Rattle.cy_planner_rewriting.proofs.splits.split_semi.Goals as goal

pub returns-clause-is : goal.returns-clause-is
returns-clause-is c = semi_sides c.args.left c.args.right c.bare_side-right.result c.bare_side-right.ensures.part c.bare_side-right.ensures.lookups c.args.keys c.args.keeping c.args.lookups c.requires
