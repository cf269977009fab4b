-- Look-ups that stand one after another, each of them once, and where each of these stands first. (own)
use Rattle.std.specs.Prelude.{◌≡◌, ℕ, ◌≤◌, List, length}
use Rattle.std.specs.List.{position_from, slice_get}
use Rattle.std.specs.Option.{option_and_then}
use Rattle.cy_planner_algebra.specs.declared.operators.Attribute.{Attribute}
use Rattle.cy_planner_rows.specs.declared.places.Wanted.{Wanted}
use Rattle.cy_planner_rows.specs.Places.{is_of}

pub record AreFirsts (lookups distinct : List Wanted) (firsts : List ℕ) : Type 0 where
  pub each : length firsts ≡ length distinct
  pub fewer : length distinct ≤ length lookups
  -- a look-up stands first where its number among the distinct ones says
  pub at : (column : ℕ) (attribute : Attribute) → position_from (is_of column attribute) 0 lookups ≡ option_and_then (slice_get firsts) (position_from (is_of column attribute) 0 distinct)
