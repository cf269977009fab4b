-- The columns so far.
use Rattle.std.proofs.Common.{◌≡◌, map}
use Rattle.std.specs.List.{range_with_len}
use Rattle.cy_planner_algebra.specs.PlanModels.{output_of}
use Rattle.cy_planner_rows.specs.Columns.{column_output}
use Rattle.cy_planner_optional.proofs.values.row_outputs.Given as goal

abbrev pub invariant-loop-column : goal.invariant-loop-column
invariant-loop-column l = map output_of l.outputs.items ≡ map column_output (range_with_len 0 l.column)
