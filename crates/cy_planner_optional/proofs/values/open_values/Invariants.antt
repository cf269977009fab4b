-- The values so far, and those of the places that are left.
use Rattle.std.proofs.Common.{◌≡◌, ◌++◌, drop, map}
use Rattle.cy_trees.specs.TreeModels.{expression_of}
use Rattle.cy_oneshot_patterns.specs.internal.Patterns.{place_of}
use Rattle.cy_planner_optional.specs.Columns.{reading_entries, values_of}
use Rattle.cy_planner_optional.proofs.values.open_values.Given as goal

abbrev pub invariant-loop-place : goal.invariant-loop-place
invariant-loop-place l =
    map (λ e. expression_of e.now) l.values.items ++ values_of (reading_entries (map place_of (drop l.place-index l.places))) ≡ values_of (reading_entries (map place_of l.places))
