-- The change of a bag of rows, row by row: of each row whose count differs, both counts. (own)
use Rattle.std.specs.Prelude.{◌≡◌, ℕ, ◌+◌, ◌*◌, ◌<◌, ◌≤◌, ◌==◌, List, [], ◌∷◌, Option, Some, None, length, take, drop, if◌then◌else◌}
use Rattle.std.specs.List.{All}
use Rattle.std.specs.Prelude as std
use Rattle.cy_values.specs.declared.rows.Cell.{Cell}
use Rattle.cy_values.specs.Bag.{count_of}
use Rattle.cy_graph.specs.Graph.{Content}
use Rattle.cy_values.specs.Same.{is_row}
use Rattle.cy_network_memory.specs.Counts.{Counts, greatest_count, with_count}
use Rattle.cy_planner_algebra.specs.declared.operators.KeyColumns.{KeyColumns}
use Rattle.cy_planner_algebra.specs.Keys.{meet}
use Rattle.cy_planner_algebra.specs.Meaning.{rows_of}
use Rattle.cy_planner_algebra.specs.Plans.{Plan}
use Rattle.cy_network_memory.specs.declared.memory.RowDelta.{RowDelta}

-- the rows of a plan on a graph, and none where there is no graph yet
abbrev pub rows_at : Option Content → Plan → List (List Cell)
rows_at None p = []
rows_at (Some graph) p = rows_of graph p

-- what a graph holds, and nothing where there is no graph yet
abbrev pub content_at : Option Content → Content
content_at None = record { nodes = []; rels = [] }
content_at (Some graph) = graph

-- how many times each row counts in a list of rows
abbrev pub counts : List (List Cell) → Counts
counts rows row = count_of row rows

-- the row deltas of a row
abbrev pub deltas_of : List Cell → List RowDelta → List RowDelta
deltas_of row deltas = std.filter (λ s. is_row row s.row) deltas

-- the row delta of a row with these counts before and after: none where they are the same
abbrev pub row_delta_between : List Cell → ℕ → ℕ → List RowDelta
row_delta_between row before after = if before == after then [] else record { row = row; before = before; after = after } ∷ []

-- A delta from some counts to others: each row has one row delta, with its two counts, where these differ, and none where they are
-- the same.
pub record IsDelta (before after : Counts) (deltas : List RowDelta) : Type 0 where
  pub each : (row : List Cell) → deltas_of row deltas ≡ row_delta_between row (before row) (after row)

-- the counts after some row deltas
abbrev pub counts_after : List RowDelta → Counts → Counts
counts_after [] before = before
counts_after (s ∷ deltas) before = counts_after deltas (with_count s.row s.after before)

-- no count of the row delta is above the greatest one
abbrev pub IsBounded : RowDelta → Type 0
IsBounded s = (s.before ≤ greatest_count) × (s.after ≤ greatest_count)

-- each row that counts before or after has these columns
abbrev pub HaveColumns : List ℕ → Counts → Counts → Type 0
HaveColumns columns before after = (row : List Cell) → 0 < before row + after row → All (λ column. column < length row) columns

-- each row that counts before or after has this many columns
abbrev pub AreWide : ℕ → Counts → Counts → Type 0
AreWide width before after = (row : List Cell) → 0 < before row + after row → length row ≡ width

-- how often a row of the left input and one of the right input count together: as often as the one times as often as the other where they meet
abbrev pub pair_count : List KeyColumns → Counts → Counts → List Cell → List Cell → ℕ
pair_count keys left right row other = if meet keys row other then left row * right other else 0

-- how often a row counts that begins with a row of the one counts, which is this wide, and goes on with a row of the others that it meets
abbrev pub pair_counts : List KeyColumns → ℕ → Counts → Counts → Counts
pair_counts keys width left right row = pair_count keys left right (take width row) (drop width row)
