-- Where columns stand among those that are kept. (own)
use Rattle.std.specs.Prelude.{◌≡◌, ℕ, ◌<◌, ◌≤◌, ◌++◌, List, length, map, Option, None, Some, slice_index_or}
use Rattle.std.specs.List.{AllByRecursion}
use Rattle.cy_planner_rows.specs.Renumbered.{new_column}

-- a column stands at this place
abbrev pub IsPlace : List ℕ → ℕ → ℕ → Type 0
IsPlace kept column place = (place < length kept) × (new_column kept place ≡ column)

-- a column that has a rank stands there among those that are kept
abbrev pub AreRanks : List (Option ℕ) → List ℕ → Type 0
AreRanks ranks kept = (column place : ℕ) → slice_index_or ranks column None ≡ Some place → IsPlace kept column place

-- a list, and perhaps more after it
abbrev pub IsLonger : List ℕ → List ℕ → Type 0
IsLonger columns longer = (more : List ℕ) × (longer ≡ columns ++ more)

-- columns of rows that are this wide, no more than there are, and the places of them in their order
pub record AreRanked (width : ℕ) (columns kept places : List ℕ) : Type 0 where
  pub same : map (new_column kept) places ≡ columns
  pub inside : AllByRecursion (λ place. place < length kept) places
  pub there : AllByRecursion (λ c. c < width) kept
  pub few : length kept ≤ length columns
