-- What changes below a projection or a union, and what its memory holds before. (own)
use Rattle.std.specs.Prelude.{◌≡◌, ℕ, ◌<◌, ◌≤◌, List, ◌++◌, length, map}
use Rattle.std.specs.List.{All, range_with_len}
use Rattle.cy_values.specs.declared.rows.Cell.{Cell}
use Rattle.cy_values.specs.Bag.{count_of}
use Rattle.cy_network_memory.specs.Counts.{Counts, greatest_count, key_cells}
use Rattle.cy_planner_algebra.specs.Plans.{Output}
use Rattle.cy_planner_algebra.specs.Expressions.{projected}
use Rattle.cy_network_memory.specs.declared.memory.RowDelta.{RowDelta}
use Rattle.cy_network_operators.specs.Deltas.{IsDelta, counts}

-- all columns of a row that is this wide, in their order
abbrev pub all_columns : ℕ → List ℕ
all_columns width = range_with_len 0 width

-- the key of the row is the whole row
abbrev pub IsWhole : List ℕ → List Cell → Type 0
IsWhole columns row = key_cells columns row ≡ row

-- no row counts more than the greatest count
abbrev pub AreBounded : Counts → Type 0
AreBounded counted = (row : List Cell) → counted row ≤ greatest_count

-- The row deltas lead from some rows below a projection to others, and the rows that count are the images of the first.
pub record IsProjectChange (outputs : List Output) (was : Counts) (deltas : List RowDelta) (before after : List (List Cell)) : Type 0 where
  pub delta : IsDelta (counts before) (counts after) deltas
  pub held : was ≡ counts (map (projected outputs) before)

-- the row delta of the row that a function makes of its row
abbrev pub image : (List Cell → List Cell) → RowDelta → RowDelta
image f s = record { row = f s.row; before = s.before; after = s.after }

-- The images of row deltas that lead from some rows below a projection to others, and the rows that count are the images of the first.
pub record IsImageChange (outputs : List Output) (was : Counts) (images : List RowDelta) (before after : List (List Cell)) : Type 0 where
  pub deltas : List RowDelta
  pub are : images ≡ map (image (projected outputs)) deltas
  pub change : IsProjectChange outputs was deltas before after

-- of two rows that are this wide and differ a projection makes rows that differ
abbrev pub IsOneToOne : ℕ → List Output → Type 0
IsOneToOne width outputs = (row other : List Cell) → length row ≡ width → length other ≡ width → projected outputs row ≡ projected outputs other → row ≡ other

-- of two of some rows that differ a projection makes rows that differ
abbrev pub IsOneToOneOn : List (List Cell) → List Output → Type 0
IsOneToOneOn rows outputs = (row other : List Cell) → 0 < count_of row rows → 0 < count_of other rows → projected outputs row ≡ projected outputs other → row ≡ other

-- the rows of the two inputs of a union
pub record Sides : Type 0 where
  pub left : List (List Cell)
  pub right : List (List Cell)

-- The row deltas of each input of a union lead from some rows of it to others, and the rows that count are the first of both. The key of
-- each is the whole row.
pub record IsUnionChange (columns : List ℕ) (was : Counts) (left right : List RowDelta) (before after : Sides) : Type 0 where
  pub delta_left : IsDelta (counts before.left) (counts after.left) left
  pub delta_right : IsDelta (counts before.right) (counts after.right) right
  pub held : was ≡ counts (before.left ++ before.right)
  pub whole_before : All (IsWhole columns) (before.left ++ before.right)
  pub whole_after : All (IsWhole columns) (after.left ++ after.right)
