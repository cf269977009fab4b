-- The columns so far.
use Rattle.std.proofs.Common.{◌≡◌, map, take}
use Rattle.cy_planner_algebra.specs.PlanModels.{output_of}
use Rattle.cy_planner_rows.specs.Columns.{column_output}
use Rattle.cy_planner_rows.proofs.columns.column_outputs.Given as goal

abbrev pub invariant-loop-column : goal.invariant-loop-column
invariant-loop-column l = map output_of l.outputs.items ≡ map column_output (take l.column-index l.columns)
