use Rattle.std.proofs.Common.{◌≡◌, ◌<◌, ℕ, map, true}
use Rattle.cy_planner_algebra.specs.PlanModels.{output_of, plan_of}
use Rattle.cy_network_relevance.specs.Trails.{is_kept_key}
use Rattle.cy_network_relevance.proofs.keys.keeps_key.Given as goal

-- each column so far is kept, if it is one of the key
abbrev pub invariant-loop-column : goal.invariant-loop-column
invariant-loop-column l = (k : ℕ) → k < l.column → is_kept_key (plan_of l.part) (map output_of l.outputs) k ≡ true
