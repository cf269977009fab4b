-- Rows with counts, and what a row delta makes of them.
use Rattle.std.specs.Prelude.{◌≡◌, ℕ, ◌-◌, List, [], ◌∷◌, Some, nat_lt, if◌then◌else◌}
use Rattle.cy_bags.specs.declared.changes.Change.{Change}
use Rattle.cy_bags.specs.Difference.{IsDifference}
use Rattle.cy_graph.specs.Graph.{Content}
use Rattle.cy_values.specs.declared.rows.Cell.{Cell}
use Rattle.cy_network_memory.specs.Counts.{Counts}
use Rattle.cy_network_memory.specs.declared.memory.RowDelta.{RowDelta}
use Rattle.cy_network_operators.specs.Deltas.{IsDelta, counts}
use Rattle.cy_network_parts.specs.Counted.{counted, written}
use Rattle.cy_network_parts.specs.Memories.{AreHeld}
use Rattle.cy_planner_algebra.specs.Meaning.{rows_of}
use Rattle.cy_planner_algebra.specs.Plans.{Plan}
use Rattle.cy_network.specs.Places.{Place, in_table, rows_by}

-- the row of a row delta with by how much its one count is greater than its other one, if it is
abbrev pub excess : (RowDelta → ℕ) → (RowDelta → ℕ) → RowDelta → List (List Cell × ℕ)
excess f g s = if nat_lt (g s) (f s) then (s.row, f s - g s) ∷ [] else []

-- row deltas lead from some rows to some
abbrev pub AreDeltas : List RowDelta → Type 0
AreDeltas deltas = (before : List (List Cell)) × ((after : List (List Cell)) × IsDelta (counts before) (counts after) deltas)

-- a change is the difference between the rows that the row deltas lead from and to
abbrev pub IsDifferenceBy : List RowDelta → Change → Type 0
IsDifferenceBy deltas change = (before after : List (List Cell)) → IsDelta (counts before) (counts after) deltas → IsDifference before after change

-- counts that are written over those of the rows that the row deltas lead from leave those of the rows that they lead to
abbrev pub LeaveRowsBy : List RowDelta → List (List Cell × ℕ) → Type 0
LeaveRowsBy deltas next = (before after : List (List Cell)) → IsDelta (counts before) (counts after) deltas → written next (counts before) ≡ counts after

-- a table counts the rows that the row deltas lead to from none
abbrev pub CountsRowsBy : List RowDelta → List (List Cell × ℕ) → Type 0
CountsRowsBy deltas entries = (after : List (List Cell)) → IsDelta (counts []) (counts after) deltas → counted entries ≡ counts after

-- what is staged for a plan, where the graph changes: its memories, the counts of those of its rows that change in its table, and what changes
pub record IsStaged (before after : Content) (p : Plan) (place : Place) (columns : List (List ℕ)) (staged : List Counts) (next : List (List Cell × ℕ)) (change : Change) : Type 0 where
  pub held : AreHeld (Some after) p columns staged staged
  pub leaves : (table : Counts) → (place ≡ in_table → table ≡ counts (rows_of before p)) → rows_by place (written next table) staged ≡ counts (rows_of after p)
  pub difference : IsDifference (rows_of before p) (rows_of after p) change
