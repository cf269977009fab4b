-- Rows under numbers (own).
use Rattle.std.specs.Prelude.{Bool, true, false, List, Option, None, Some}
use Rattle.cy_values.specs.declared.rows.Cell.{Cell}
use Rattle.cy_values.specs.Same.{is_cell}

-- the rows, and the one that was written and isn't kept yet
pub record Kept : Type 0 where
  pub rows : List (List Cell)
  pub next : Option (List Cell)

-- two things are the same, or there is none of them
abbrev pub alike_by : {X : Type 0} → (X → X → Bool) → Option X → Option X → Bool
alike_by same None None = true
alike_by same None (Some other) = false
alike_by same (Some one) None = false
alike_by same (Some one) (Some other) = same one other

-- two cells are the same, or there is none of them
abbrev pub are_alike : Option Cell → Option Cell → Bool
are_alike = alike_by is_cell
