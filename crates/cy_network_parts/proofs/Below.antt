-- The parts right below a part, as the crate of plans lends them.
use Rattle.std.proofs.Common.{◌≡◌, ◌-◌, get_or, length, refl}
use Rattle.cy_planner_algebra.specs.internal.Below.{below}
use Rattle.cy_planner_algebra.specs.Plans as plan
use Rattle.cy_planner_algebra.specs.Plans.{Plan}
use Rattle.cy_network_parts.specs.Parts.{below_count, first_below, second_below}

pub count_below : (p : Plan) → below_count p ≡ length (below p)
count_below plan.unit = refl
count_below _ = refl

pub first_of : (p : Plan) → first_below p ≡ get_or (below p) 0 p
first_of plan.unit = refl
first_of _ = refl

pub second_of : (p : Plan) → second_below p ≡ get_or (below p) (length (below p) - 1) p
second_of plan.unit = refl
second_of _ = refl
