-- The columns so far.
use Rattle.std.proofs.Common.{◌≡◌, ◌++◌, map, take}
use Rattle.cy_trees.specs.TreeModels.{expression_of}
use Rattle.cy_planner_algebra.specs.Plans.{computed}
use Rattle.cy_planner_algebra.specs.PlanModels.{output_of}
use Rattle.cy_planner_rows.specs.internal.Lowered.{lowered}
use Rattle.cy_planner_rows.specs.Places.{place}
use Rattle.cy_planner_optional.proofs.values.add_outputs.Given as goal

abbrev pub invariant-loop-expression : goal.invariant-loop-expression
invariant-loop-expression l =
    map output_of l.outputs.items
    ≡ map output_of l.initial.outputs.items ++ map (λ e. computed (lowered (place l.first l.wanted) e)) (map (λ e. expression_of e.now) (take l.expression-index l.expressions))
