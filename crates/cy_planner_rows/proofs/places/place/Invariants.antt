-- The look-ups that are left settle the place.
use Rattle.std.proofs.Common.{◌≡◌, ◌+◌, drop}
use Rattle.cy_planner_rows.specs.Places as spec
use Rattle.cy_planner_rows.proofs.places.place.Given as goal

abbrev pub invariant-loop-other : goal.invariant-loop-other
invariant-loop-other l =
    record {
      so_far : l.place ≡ l.first + l.other-index;
      left : spec.place l.place (drop l.other-index l.wanted) l.column l.attribute ≡ spec.place l.first l.wanted l.column l.attribute;
    }
