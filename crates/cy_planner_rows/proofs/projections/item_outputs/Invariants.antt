-- The columns so far.
use Rattle.std.proofs.Common.{◌≡◌, map, take}
use Rattle.cy_trees.specs.TreeModels.{expression_of}
use Rattle.cy_planner_algebra.specs.Plans.{computed}
use Rattle.cy_planner_algebra.specs.PlanModels.{output_of}
use Rattle.cy_planner_rows.specs.internal.Lowered.{lowered}
use Rattle.cy_planner_rows.specs.Places.{place}
use Rattle.cy_planner_rows.proofs.projections.item_outputs.Given as goal

abbrev pub invariant-loop-item : goal.invariant-loop-item
invariant-loop-item l =
    map output_of l.outputs.items ≡ map (λ e. computed (lowered (place l.first l.wanted) e)) (map (λ i. expression_of i.expression) (take l.item-index l.items))
