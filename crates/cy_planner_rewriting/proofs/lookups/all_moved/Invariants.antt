-- The look-ups so far.
use Rattle.std.proofs.Common.{◌≡◌, map, take}
use Rattle.std.specs.Prelude.{Some}
use Rattle.cy_planner_algebra.specs.PlanModels.{output_of}
use Rattle.cy_planner_rewriting.specs.internal.Lowered.{moved}
use Rattle.cy_planner_rewriting.proofs.lookups.all_moved.Given as goal

abbrev pub invariant-loop-lookup : goal.invariant-loop-lookup
invariant-loop-lookup l = map (moved (map output_of l.outputs)) (take l.lookup-index l.lookups) ≡ map Some l.made.items
