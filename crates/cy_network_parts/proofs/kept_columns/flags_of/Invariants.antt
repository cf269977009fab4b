use Rattle.std.proofs.Common.{◌≡◌, ℕ, ◌<◌, false, length, map, take}
use Rattle.std.specs.Prelude.{is_some, slice_index_or}
use Rattle.cy_planner_algebra.specs.PlanModels.{output_of}
use Rattle.cy_network_sources.specs.Scans.{kept_at}
use Rattle.cy_network_parts.proofs.kept_columns.flags_of.Given as goal

-- of each column, whether it stands alone among the outputs so far
abbrev pub invariant-loop-output : goal.invariant-loop-output
invariant-loop-output l = record {
  long : length l.flags.items ≡ l.number;
  kept : (k : ℕ) → k < l.number → slice_index_or l.flags.items k false ≡ is_some (kept_at k (map output_of (take l.output-index l.outputs)));
}
