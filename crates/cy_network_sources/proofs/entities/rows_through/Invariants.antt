-- what the rows so far make
use Rattle.std.proofs.Common.{◌≡◌, map}
use Rattle.cy_planner_algebra.specs.PlanModels.{plan_of}
use Rattle.cy_network_sources.specs.internal.Through as spec
use Rattle.cy_network_sources.specs.internal.Through.{attribute_in}
use Rattle.cy_network_sources.proofs.entities.rows_through.Given as goal

abbrev pub invariant-loop-row : goal.invariant-loop-row
invariant-loop-row l = l.made.items ≡ spec.through (attribute_in l.entity) (map (λ part. plan_of part.now) l.parts) l.yielded
