-- The outputs that are left settle the answer.
use Rattle.std.proofs.Common.{◌≡◌, drop, map}
use Rattle.cy_planner_algebra.specs.PlanModels.{output_of}
use Rattle.cy_planner_rewriting.specs.internal.Columns.{are_columns_from}
use Rattle.cy_planner_rewriting.proofs.outputs.are_first_columns.Given as goal

abbrev pub invariant-loop-column : goal.invariant-loop-column
invariant-loop-column l = are_columns_from l.column (map output_of (drop l.column l.outputs)) ≡ are_columns_from 0 (map output_of l.outputs)
