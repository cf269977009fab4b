-- The sum so far.
use Rattle.std.proofs.Common.{◌≡◌, map, min, take}
use Rattle.std.specs.Prelude.{sum_by}
use Rattle.cy_trees.specs.TreeModels.{step_of}
use Rattle.cy_planner.specs.Weight as spec
use Rattle.cy_planner.proofs.weight.steps_weight.Given as goal

abbrev pub invariant-loop-step : goal.invariant-loop-step
invariant-loop-step l = l.total ≡ min (sum_by spec.step_weight (map step_of (take l.step-index l.steps))) 18446744073709551615
