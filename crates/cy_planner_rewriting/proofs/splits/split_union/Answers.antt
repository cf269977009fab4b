use Rattle.cy_planner_rewriting.proofs.Splitting.{union_sides}
use Rattle.cy_planner_rewriting.proofs.splits.split_union.Goals as goal

pub returns-clause-is : goal.returns-clause-is
returns-clause-is c = union_sides c.args.left c.args.right c.bare_side-left.result c.bare_side-right.result c.bare_side-left.ensures.part c.bare_side-right.ensures.part c.bare_side-left.ensures.lookups c.bare_side-right.ensures.lookups c.args.lookups c.requires
