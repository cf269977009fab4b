use Rattle.std.proofs.Common.{map}
use Rattle.cy_planner_algebra.specs.PlanModels.{plan_of}
use Rattle.cy_network_parts.specs.internal.Parts.{IsWholeAt}
use Rattle.cy_network_parts.proofs.parts.cut_of.Given as goal

-- the parts from a place on are a scan, or the last one
abbrev pub invariant-up : goal.invariant-up
invariant-up l = IsWholeAt (map (λ p. plan_of p.now) l.chain) l.place l.column

abbrev pub decreases-up : goal.decreases-up
decreases-up l = l.place
