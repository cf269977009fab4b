-- By how much the count of a row changes in all, where it may stand in several row deltas.
use Rattle.std.specs.Prelude.{◌≡◌, ℕ, ◌-◌, Bool, List, [], ◌∷◌, if◌then◌else◌, flat_map, max, unwrap_or}
use Rattle.std.specs.List.{sum_by, list_any}
use Rattle.std.specs.Map.{lookup}
use Rattle.cy_values.specs.declared.rows.Cell.{Cell}
use Rattle.cy_values.specs.Bag.{count_of}
use Rattle.cy_values.specs.Same.{is_row}
use Rattle.cy_network_memory.specs.Counts.{Counts}
use Rattle.cy_network_memory.specs.declared.memory.RowDelta.{RowDelta}
use Rattle.cy_network_operators.specs.Deltas.{row_delta_between, deltas_of}

-- what a row delta by which the row counts less takes from it
abbrev pub loss : List Cell → RowDelta → ℕ
loss row s = if is_row row s.row then s.before - s.after else 0

-- what all of them take
abbrev pub lost : List Cell → List RowDelta → ℕ
lost row deltas = sum_by (λ s. loss row s) deltas

-- what a row delta by which the row counts more adds to it
abbrev pub gain : List Cell → RowDelta → ℕ
gain row s = if is_row row s.row then s.after - s.before else 0

-- what all of them add
abbrev pub gained : List Cell → List RowDelta → ℕ
gained row deltas = sum_by (λ s. gain row s) deltas

-- whether one of the row deltas is of the row
abbrev pub is_changed : List Cell → List RowDelta → Bool
is_changed row deltas = list_any (λ s. is_row row s.row) deltas

-- the row deltas of some rows between two counts
abbrev pub deltas_at : Counts → Counts → List (List Cell) → List RowDelta
deltas_at before after rows = flat_map (λ row. row_delta_between row (before row) (after row)) rows

-- The row deltas between two counts of the rows of some changes, each of these rows once.
pub record AreRowDeltasOf (before after : Counts) (changes deltas : List RowDelta) : Type 0 where
  pub rows : List (List Cell)
  pub once : (row : List Cell) → count_of row rows ≡ (if is_changed row changes then 1 else 0)
  pub between : deltas ≡ deltas_at before after rows

-- the greatest of what some row deltas weigh
abbrev pub greatest : (RowDelta → ℕ) → List RowDelta → ℕ
greatest weight [] = 0
greatest weight (s ∷ deltas) = max (weight s) (greatest weight deltas)

-- the greatest count of a row before some row deltas, and the greatest one after them
abbrev pub most_before : List RowDelta → Counts
most_before deltas row = greatest (λ s. s.before) (deltas_of row deltas)

abbrev pub most_after : List RowDelta → Counts
most_after deltas row = greatest (λ s. s.after) (deltas_of row deltas)

-- the two counts that stand under a row, 0 where none do
abbrev pub counts_at : List Cell → List (List Cell × (ℕ × ℕ)) → ℕ × ℕ
counts_at row pairs = unwrap_or (lookup (is_row row) pairs) (0, 0)
