-- What rows become with an attribute.
use Rattle.std.specs.Prelude.{◌≡◌, ◌≢◌, ℕ, ◌==◌, ◌&&◌, List, [], ◌∷◌, ◌++◌, if◌then◌else◌, MatchOption}
use Rattle.std.specs.Option.{option_map_or}
use Rattle.cy_values.specs.declared.scalars.Value.{Value}
use Rattle.cy_values.specs.declared.rows.Cell.{Cell}
use Rattle.cy_values.specs.declared.rows.Cell.TheVariants as cell
use Rattle.cy_graph.specs.Graph.{Content}
use Rattle.cy_network_memory.specs.declared.memory.RowDelta.{RowDelta}
use Rattle.cy_values.specs.Same.{is_row}
use Rattle.cy_network_memory.specs.Counts.{Counts, key_cells}
use Rattle.cy_planner_algebra.specs.declared.operators.Attribute.{Attribute}
use Rattle.cy_planner_algebra.specs.Meaning.{with_attribute}
use Rattle.cy_network_operators.specs.Deltas.{deltas_of, row_delta_between}
use Rattle.cy_network_sources.specs.declared.attributes.Attributes.{Attributes}

-- an attribute that had one value and has another: the one that it had is given where it differs
abbrev pub AreAttributes : Value → Value → Attributes → Type 0
AreAttributes old new values = (values.value ≡ new) × MatchOption values.was (old ≡ new) (λ was. (was ≡ old) × (old ≢ new))

-- the row deltas of a row with such a value after it
abbrev pub valued : Attributes → RowDelta → List RowDelta
valued values s =
    option_map_or (λ was. row_delta_between (s.row ++ cell.Value was ∷ []) s.before 0 ++ row_delta_between (s.row ++ cell.Value values.value ∷ []) 0 s.after)
    values.was (row_delta_between (s.row ++ cell.Value values.value ∷ []) s.before s.after)

-- those of a row that didn't change
abbrev pub valued_record : Attributes → RowDelta → List RowDelta
valued_record values r = if r.before == r.after then valued values (record { row = r.row; before = r.before; after = r.after }) else []

-- the row deltas of a row with an attribute, in the old graph and in the new one
abbrev pub reattributed : Content → Content → ℕ → Attribute → RowDelta → List RowDelta
reattributed old new column attribute s =
    if is_row (with_attribute old column attribute s.row) (with_attribute new column attribute s.row)
    then row_delta_between (with_attribute new column attribute s.row) s.before s.after
    else row_delta_between (with_attribute old column attribute s.row) s.before 0 ++ row_delta_between (with_attribute new column attribute s.row) 0 s.after

-- a row without its last cell
abbrev pub front : List Cell → List Cell
front [] = []
front (c ∷ []) = []
front (c ∷ d ∷ cells) = c ∷ front (d ∷ cells)

-- the row delta of a row with its two counts
abbrev pub row_delta_at : Counts → Counts → List Cell → RowDelta
row_delta_at was staged row = record { row = row; before = was row; after = staged row }

-- Those row deltas of a row that come from another one without its last cell, where this has the key and didn't change.
abbrev pub still_deltas : List ℕ → Counts → Counts → List Cell → Attributes → List Cell → List RowDelta
still_deltas columns was staged key values row =
    if is_row key (key_cells columns (front row)) && (was (front row) == staged (front row)) then deltas_of row (valued values (row_delta_at was staged (front row))) else []

-- those row deltas of a row with an attribute, where the key is the cell in a column
abbrev pub still : Content → Content → ℕ → Attribute → Counts → Counts → Cell → List Cell → List RowDelta
still old new column attribute was staged entity row =
    if is_row (entity ∷ []) (key_cells (column ∷ []) (front row)) && (was (front row) == staged (front row))
    then deltas_of row (reattributed old new column attribute (row_delta_at was staged (front row))) else []
