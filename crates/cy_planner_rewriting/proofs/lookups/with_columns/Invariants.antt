-- The columns so far.
use Rattle.std.proofs.Common.{◌≡◌, map}
use Rattle.cy_planner_algebra.specs.PlanModels.{output_of}
use Rattle.cy_planner_rewriting.specs.internal.Lowered.{with_columns}
use Rattle.cy_planner_rewriting.proofs.lookups.with_columns.Given as goal

abbrev pub invariant-loop-index : goal.invariant-loop-index
invariant-loop-index l = map output_of l.outputs.items ≡ with_columns (map output_of l.fn.outputs.items) l.first l.index
