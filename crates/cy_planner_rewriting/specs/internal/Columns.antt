-- Projections that take over columns, and projections of them. (own)
use Rattle.std.specs.Prelude.{◌≡◌, ◌⊎◌, ℕ, ◌+◌, ◌==◌, Bool, true, false, ◌&&◌, List, [], ◌∷◌, map, Option, Some, None, slice_get}
use Rattle.cy_planner_algebra.specs.Plans.{Output, computed, gathered}
use Rattle.cy_planner_rows.specs.Columns.{taken_column}
use Rattle.cy_planner_rows.specs.Renumbered.{new_column, renumbered}

-- a projection takes over these columns and makes no other one
abbrev pub AreColumns : List Output → List ℕ → Type 0
AreColumns outputs columns = map taken_column outputs ≡ map Some columns

abbrev pub is_column : ℕ → Option ℕ → Bool
is_column column (Some other) = column == other
is_column column None = false

-- a projection takes over the columns from a number on, in their order
abbrev pub are_columns_from : ℕ → List Output → Bool
are_columns_from first [] = true
are_columns_from first (output ∷ outputs) = is_column first (taken_column output) && are_columns_from (first + 1) outputs

-- an output over taken columns, over the rows that these are columns of
abbrev pub renumbered_output : List ℕ → Output → Output
renumbered_output columns (computed e) = computed (renumbered columns e)
renumbered_output columns (gathered members) = gathered (map (new_column columns) members)

-- what a projection makes in some columns
abbrev pub ArePicked : List Output → List ℕ → List Output → Type 0
ArePicked outputs columns made = map (slice_get outputs) columns ≡ map Some made

-- one projection in place of two: what the outer one makes, of columns of the rows below
abbrev pub IsRenumbered : List Output → List Output → List Output → Type 0
IsRenumbered outer inner merged = (columns : List ℕ) × AreColumns inner columns × (merged ≡ map (renumbered_output columns) outer)

-- or what the inner one makes, where the outer one takes it over
abbrev pub IsTaken : List Output → List Output → List Output → Type 0
IsTaken outer inner merged = (columns : List ℕ) × AreColumns outer columns × ArePicked inner columns merged

abbrev pub IsMerged : List Output → List Output → List Output → Type 0
IsMerged outer inner merged = IsRenumbered outer inner merged ⊎ IsTaken outer inner merged
