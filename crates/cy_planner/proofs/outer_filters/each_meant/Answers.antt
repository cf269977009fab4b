use Rattle.cy_planner_algebra.specs.PlanModels.{plan_of}
use Rattle.cy_planner_rewriting.proofs.NarrowPutting.{well_sides}
use Rattle.cy_planner.proofs.outer_filters.each_meant.Goals as goal

pub returns-clause-left : goal.returns-clause-left
returns-clause-left c = (well_sides c.args._joint.now (plan_of c.args._left.now) (plan_of c.args._right.now) c.requires).0

pub returns-clause-right : goal.returns-clause-right
returns-clause-right c = (well_sides c.args._joint.now (plan_of c.args._left.now) (plan_of c.args._right.now) c.requires).1
