-- What the upkeep of a look-up may cost, beside the rows that change: a step for each touched entity, and for each row that names one. (own)
use Rattle.std.specs.Prelude.{ℕ, Bool, false, List, ◌++◌, is_some, count_by}
use Rattle.cy_values.specs.declared.rows.Cell.{Cell}
use Rattle.cy_values.specs.declared.rows.Cell.TheVariants as cell
use Rattle.cy_planner_algebra.specs.Expressions.{cell_at}
use Rattle.cy_planner_algebra.specs.Meaning.{each_once}
use Rattle.cy_network_sources.specs.Changes.{Touches, image_at}

-- whether a cell names a touched entity
abbrev pub names_touched : Touches → Cell → Bool
names_touched touches (cell.Node id) = is_some (image_at id.0 touches.nodes)
names_touched touches (cell.Rel id) = is_some (image_at id.0 touches.rels)
names_touched touches (cell.Rels ids) = false
names_touched touches (cell.Value v) = false

-- how many rows there are before or after, each once, that name a touched entity in a column
abbrev pub naming_rows : Touches → ℕ → List (List Cell) → List (List Cell) → ℕ
naming_rows touches column old new = count_by (λ row. names_touched touches (cell_at row column)) (each_once (old ++ new))
