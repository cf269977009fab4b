-- Where the rows of a network stand with their counts. (own)
use Rattle.std.specs.Prelude.{ℕ, ◌-◌, Bool, List, [], if◌then◌else◌, length, min, slice_get, unwrap_or}
use Rattle.indexmap.specs.IndexMap.{spare}
use Rattle.cy_values.specs.declared.rows.Cell.{Cell}
use Rattle.cy_network_memory.specs.Counts.{Counts, no_rows}
use Rattle.cy_network_parts.specs.KeptRows.{keeps_rows}
use Rattle.cy_planner_algebra.specs.Plans as plan
use Rattle.cy_planner_algebra.specs.Plans.{Plan}
use Rattle.cy_network.specs.declared.kept.Rows.{Rows}
use Rattle.cy_network.specs.declared.kept.Rows.TheVariants as kept

-- in a table of their own; in the last memory of the plan, as often as there; or there, each row that counts once
pub data Place : Type 0 where
  in_table : Place
  in_memory : Place
  once_in_memory : Place

-- this place where the last memory holds the rows, and else a table
abbrev pub place_where : Bool → Place → Place
place_where held place = if held then place else in_table

-- where the rows of a plan stand: in its last memory, where its uppermost operator keeps its rows there, or is a distinct over one that does; else in a
-- table of their own
abbrev pub place_of : Plan → Place
place_of plan.unit = in_table
place_of plan.nodes = in_table
place_of (plan.rels types orientation) = in_table
place_of (plan.join left right keys) = in_table
place_of (plan.outer left right keys test) = in_table
place_of (plan.semi left right keys keeping) = in_table
place_of (plan.lookup p column attribute) = in_table
place_of (plan.filter p test) = in_table
place_of (plan.all_different p columns) = in_table
place_of (plan.project p outputs) = place_where (keeps_rows (plan.project p outputs)) in_memory
place_of (plan.distinct p) = place_where (keeps_rows p) once_in_memory
place_of (plan.union left right) = place_where (keeps_rows (plan.union left right)) in_memory

-- what the last of some memories counts
abbrev pub last_of : List Counts → Counts
last_of memories = unwrap_or (slice_get memories (length memories - 1)) no_rows

-- each row that counts, once
abbrev pub once_each : Counts → Counts
once_each counts row = min (counts row) 1

-- how often each row counts at its place, where the table of a network counts so, and its memories
abbrev pub rows_by : Place → Counts → List Counts → Counts
rows_by in_table table memories = table
rows_by in_memory table memories = last_of memories
rows_by once_in_memory table memories = once_each (last_of memories)

-- the rows of a network, as the code holds them: where they stand, what is in the table and how many rows it has room for beside these
abbrev pub place_in : Rows → Place
place_in (kept.Table table) = in_table
place_in kept.LastMemory = in_memory
place_in kept.LastMemoryOnce = once_in_memory

abbrev pub entries_in : Rows → List (List Cell × ℕ)
entries_in (kept.Table table) = table.entries
entries_in kept.LastMemory = []
entries_in kept.LastMemoryOnce = []

abbrev pub room_in : Rows → ℕ
room_in (kept.Table table) = spare table
room_in kept.LastMemory = 0
room_in kept.LastMemoryOnce = 0
