-- The columns so far, with those of the places that are left.
use Rattle.std.proofs.Common.{◌≡◌, ◌+◌, drop, map}
use Rattle.std.specs.List.{range_with_len}
use Rattle.cy_oneshot_patterns.specs.internal.Patterns.{place_of}
use Rattle.cy_planner_tables.specs.MatchColumns.{with_places}
use Rattle.cy_planner_optional.proofs.columns.kept_columns.Given as goal

abbrev pub invariant-loop-place : goal.invariant-loop-place
invariant-loop-place l =
    record {
      so_far : l.column ≡ l.width + l.place-index;
      left : with_places l.kept.items l.column (map place_of (drop l.place-index l.places)) ≡ with_places (range_with_len 0 l.width) l.width (map place_of l.places);
    }
