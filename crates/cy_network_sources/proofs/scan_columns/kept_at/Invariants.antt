-- what is left of the columns settles where it stands
use Rattle.std.proofs.Common.{◌≡◌, ◌+◌, drop, map}
use Rattle.std.specs.Option.{option_map}
use Rattle.cy_planner_algebra.specs.PlanModels.{output_of}
use Rattle.cy_network_sources.specs.Scans.{kept_at}
use Rattle.cy_network_sources.proofs.scan_columns.kept_at.Given as goal

abbrev pub invariant-loop-at : goal.invariant-loop-at
invariant-loop-at l = option_map (λ k. l.at + k) (kept_at l.column (drop l.at (map output_of l.outputs))) ≡ kept_at l.column (map output_of l.outputs)
