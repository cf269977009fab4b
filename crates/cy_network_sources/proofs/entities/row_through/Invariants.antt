-- the row so far is what the parts below those that are left make
use Rattle.std.proofs.Common.{◌≡◌, ◌∷◌, [], ◌≤◌, drop, length, map}
use Rattle.cy_planner_algebra.specs.PlanModels.{plan_of}
use Rattle.cy_network_sources.specs.internal.Through as spec
use Rattle.cy_network_sources.specs.internal.Through.{attribute_in}
use Rattle.cy_network_sources.proofs.entities.row_through.Given as goal

abbrev pub invariant-loop-left : goal.invariant-loop-left
invariant-loop-left l = record {
  within : l.left ≤ length l.parts;
  so_far : l.row ∷ [] ≡ spec.through (attribute_in l.entity) (drop l.left (map (λ part. plan_of part.now) l.parts)) (l.initial.row ∷ []);
}

abbrev pub decreases-loop-left : goal.decreases-loop-left
decreases-loop-left l = l.left
