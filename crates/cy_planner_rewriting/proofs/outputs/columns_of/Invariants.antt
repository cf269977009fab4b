-- The columns so far.
use Rattle.std.proofs.Common.{map, take}
use Rattle.cy_planner_algebra.specs.PlanModels.{output_of}
use Rattle.cy_planner_rewriting.specs.internal.Columns.{AreColumns}
use Rattle.cy_planner_rewriting.proofs.outputs.columns_of.Given as goal

abbrev pub invariant-loop-output : goal.invariant-loop-output
invariant-loop-output l = AreColumns (map output_of (take l.output-index l.outputs)) l.columns.items
