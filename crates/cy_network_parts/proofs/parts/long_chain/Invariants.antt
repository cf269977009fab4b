use Rattle.std.proofs.Common.{◌≡◌, ◌++◌, length, map}
use Rattle.cy_planner_algebra.specs.Parts.{parts}
use Rattle.cy_planner_algebra.specs.PlanModels.{plan_of}
use Rattle.cy_network_parts.specs.Parts.{chain}
use Rattle.cy_network_parts.proofs.parts.long_chain.Given as goal

-- the parts so far, and those from the next one down, are all
abbrev pub invariant-down : goal.invariant-down
invariant-down l = map (λ p. plan_of p.now) l.chain.items ++ chain (plan_of l.last) ≡ chain (plan_of l.fn.part)

abbrev pub decreases-down : goal.decreases-down
decreases-down l = length (parts (plan_of l.last))
