-- Columns of pairs. (own)
use Rattle.std.specs.Prelude.{ℕ, ◌+◌, ◌==◌, List, [], ◌∷◌, ◌++◌, if◌then◌else◌, map}
use Rattle.cy_planner_algebra.specs.declared.operators.KeyColumns.{KeyColumns}
use Rattle.cy_planner_rows.specs.Renumbered.{new_column}

-- a key of rows that columns make, as one of the rows that these are columns of
abbrev pub renumbered_key : List ℕ → List ℕ → KeyColumns → KeyColumns
renumbered_key left right k = record { left = new_column left k.left; right = new_column right k.right }

-- the column of a pair, whose left row is this wide, for one of the right row: one of the left row, if a key makes it the same
abbrev pub paired_column : List KeyColumns → ℕ → ℕ → ℕ
paired_column [] width column = width + column
paired_column (k ∷ keys) width column = if k.right == column then k.left else paired_column keys width column

abbrev pub paired_columns : List KeyColumns → ℕ → List ℕ → List ℕ → List ℕ
paired_columns keys width left right = left ++ map (paired_column keys width) right
