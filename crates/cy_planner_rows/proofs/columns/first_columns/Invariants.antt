-- The columns so far.
use Rattle.std.proofs.Common.{◌≡◌, map}
use Rattle.cy_planner_algebra.specs.PlanModels.{output_of}
use Rattle.cy_planner_rows.specs.internal.Lookups as spec
use Rattle.cy_planner_rows.proofs.columns.first_columns.Given as goal

abbrev pub invariant-loop-column : goal.invariant-loop-column
invariant-loop-column l = map output_of l.outputs.items ≡ spec.first_columns l.column
