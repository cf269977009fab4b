use Rattle.std.proofs.Common.{length}
use Rattle.cy_planner_algebra.specs.Parts.{parts}
use Rattle.cy_planner_algebra.specs.PlanModels.{plan_of}
use Rattle.cy_network_parts.proofs.sizes.+missing_joins.Given as goal

abbrev pub decreases-missing_joins : goal.decreases-missing_joins
decreases-missing_joins l = length (parts (plan_of l.part.now))
