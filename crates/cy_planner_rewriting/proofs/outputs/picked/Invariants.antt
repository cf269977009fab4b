-- The outputs so far.
use Rattle.std.proofs.Common.{map, take}
use Rattle.cy_planner_algebra.specs.PlanModels.{output_of}
use Rattle.cy_planner_rewriting.specs.internal.Columns.{ArePicked}
use Rattle.cy_planner_rewriting.proofs.outputs.picked.Given as goal

abbrev pub invariant-loop-column : goal.invariant-loop-column
invariant-loop-column l = ArePicked (map output_of l.outputs) (take l.column-index l.columns) (map output_of l.made.items)
