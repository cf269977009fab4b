use Rattle.std.proofs.Common.{◌≡◌, length}
use Rattle.cy_planner_algebra.specs.Parts.{parts}
use Rattle.cy_planner_algebra.specs.PlanModels.{plan_of}
use Rattle.cy_network_parts.specs.internal.Parts.{chain_end}
use Rattle.cy_network_parts.proofs.sizes.chain_end.Given as goal

-- the chain from here on ends where all of it does
abbrev pub invariant-down : goal.invariant-down
invariant-down l = chain_end (plan_of l.end) ≡ chain_end (plan_of l.fn.part)

abbrev pub decreases-down : goal.decreases-down
decreases-down l = length (parts (plan_of l.end))
