-- The rows that have a key.
use Rattle.std.specs.Prelude.{◌≡◌, ℕ, true, List, count_by}
use Rattle.cy_values.specs.declared.rows.Cell.{Cell}
use Rattle.cy_values.specs.Same.{is_row}
use Rattle.cy_network_memory.specs.Counts.{Counts, key_cells}
use Rattle.cy_network_memory.specs.Records.{is_counted}
use Rattle.cy_planner_algebra.specs.Meaning.{is_among}

-- each row that counts, as it was or as it is staged, is one of these
abbrev pub AreAmong : Counts → Counts → List (List Cell) → Type 0
AreAmong was staged rows = (row : List Cell) → is_counted was staged row ≡ true → is_among row rows ≡ true

-- how many of them have the key
abbrev pub with_key : List ℕ → List Cell → List (List Cell) → ℕ
with_key columns key rows = count_by (λ row. is_row key (key_cells columns row)) rows
