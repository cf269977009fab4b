-- Which of the columns below it a projection keeps.
use Rattle.std.specs.Prelude.{ℕ, Bool, List, is_some, map}
use Rattle.cy_network_counts.specs.Merges.{all_columns}
use Rattle.cy_planner_algebra.specs.Plans.{Output}
use Rattle.cy_network_sources.specs.Scans.{kept_at}

-- of each of the first columns, this many, whether it stands alone among those that a projection makes
abbrev pub kept_flags : ℕ → List Output → List Bool
kept_flags number outputs = map (λ column. is_some (kept_at column outputs)) (all_columns number)
