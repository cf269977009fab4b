use Rattle.std.proofs.Common.{length}
use Rattle.cy_planner_algebra.specs.Parts.{parts}
use Rattle.cy_planner_algebra.specs.PlanModels.{plan_of}
use Rattle.cy_network_parts.proofs.sizes.+join_count.Given as goal

abbrev pub decreases-join_count : goal.decreases-join_count
decreases-join_count l = length (parts (plan_of l.part.now))
