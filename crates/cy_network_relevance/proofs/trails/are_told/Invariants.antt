use Rattle.std.proofs.Common.{◌≡◌, ◌<◌, ℕ, map, true}
use Rattle.cy_planner_algebra.specs.PlanModels.{output_of}
use Rattle.cy_network_relevance.specs.Trails.{is_told}
use Rattle.cy_network_relevance.proofs.trails.are_told.Given as goal

-- each column so far can be told
abbrev pub invariant-loop-column : goal.invariant-loop-column
invariant-loop-column l = (k : ℕ) → k < l.column → is_told l.wide l.keys (map output_of l.outputs) k ≡ true
