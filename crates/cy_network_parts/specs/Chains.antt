-- The operators that a chain holds.
use Rattle.std.specs.Prelude.{List, if◌then◌else◌, map, nat_le, take}
use Rattle.cy_planner_algebra.specs.Plans.{Plan}
use Rattle.cy_planner_algebra.specs.PlanModels.{plan_of}
use Rattle.cy_network_parts.specs.declared.parts.Chain.{Chain}

-- the operators of a chain: those side by side, or those in the list, where they are more than can stand so
abbrev pub parts_of : Chain → List Plan
parts_of c = map (λ p. plan_of p.now) (if nat_le c.count 16 then take c.count c.usual else c.long.items)
