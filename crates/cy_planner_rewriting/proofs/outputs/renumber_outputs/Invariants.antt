-- The outputs so far.
use Rattle.std.proofs.Common.{◌≡◌, map, take}
use Rattle.cy_planner_algebra.specs.PlanModels.{output_of}
use Rattle.cy_planner_rewriting.specs.internal.Columns.{renumbered_output}
use Rattle.cy_planner_rewriting.proofs.outputs.renumber_outputs.Given as goal

abbrev pub invariant-loop-output : goal.invariant-loop-output
invariant-loop-output l = map output_of l.made.items ≡ map (renumbered_output l.columns) (map output_of (take l.output-index l.outputs))
