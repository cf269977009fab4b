use Rattle.std.proofs.Common.{◌≡◌, ◌<◌, ℕ, map, true}
use Rattle.cy_planner_algebra.specs.PlanModels.{output_of}
use Rattle.cy_network_relevance.specs.Trails.{is_paired}
use Rattle.cy_network_relevance.proofs.trails.are_paired.Given as goal

-- each column so far is kept or stands in the key
abbrev pub invariant-loop-column : goal.invariant-loop-column
invariant-loop-column l = (k : ℕ) → k < l.column → is_paired l.wide l.keys (map output_of l.outputs) k ≡ true
