-- what is left of the parts settles whether all make the same
use Rattle.std.proofs.Common.{◌≡◌, List, drop, map}
use Rattle.cy_values.specs.declared.rows.Cell.{Cell}
use Rattle.cy_planner_algebra.specs.PlanModels.{plan_of}
use Rattle.cy_network_sources.specs.internal.Through as spec
use Rattle.cy_network_sources.specs.internal.Through.{attribute_in}
use Rattle.cy_network_sources.proofs.alike.are_alike.Given as goal

abbrev pub invariant-loop-part : goal.invariant-loop-part
invariant-loop-part l =
    ((rows : List (List Cell)) → spec.through (attribute_in l.old) (drop l.part-index (map (λ part. plan_of part.now) l.parts)) rows ≡ spec.through (attribute_in l.new) (drop l.part-index (map (λ part. plan_of part.now) l.parts)) rows)
    → (rows : List (List Cell)) → spec.through (attribute_in l.old) (map (λ part. plan_of part.now) l.parts) rows ≡ spec.through (attribute_in l.new) (map (λ part. plan_of part.now) l.parts) rows
