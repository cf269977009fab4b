-- The columns so far.
use Rattle.std.proofs.Common.{◌≡◌, map, take}
use Rattle.cy_planner_algebra.specs.PlanModels.{output_of}
use Rattle.cy_planner.proofs.paths.copies.copy_outputs.Given as goal

abbrev pub invariant-loop-output : goal.invariant-loop-output
invariant-loop-output l = map output_of l.twins.items ≡ map output_of (take l.output-index l.outputs)
