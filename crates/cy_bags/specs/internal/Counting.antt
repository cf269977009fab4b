-- Rows that stand in order, each once with its count.
use Rattle.std.specs.Prelude.{ℕ, ◌+◌, List, [], ◌∷◌, if◌then◌else◌}
use Rattle.std.specs.Ordering.{eq_by_cmp}
use Rattle.cy_values.specs.declared.rows.Cell.{Cell}
use Rattle.cy_values.specs.Order.{row_cmp}

-- a row that has come count times, and the rows after it
abbrev pub counted_from : List Cell → ℕ → List (List Cell) → List (List Cell × ℕ)
counted_from row count [] = (row, count) ∷ []
counted_from row count (next ∷ rows) = if eq_by_cmp row_cmp next row then counted_from next (count + 1) rows else (row, count) ∷ counted_from next 1 rows

abbrev pub counted_rows : List (List Cell) → List (List Cell × ℕ)
counted_rows [] = []
counted_rows (row ∷ rows) = counted_from row 1 rows
