-- Plans with look-ups on top, and with the first columns alone. (own)
use Rattle.std.specs.Prelude.{ℕ, ◌==◌, List, [], ◌∷◌, ◌++◌, map, if◌then◌else◌}
use Rattle.std.specs.List.{range_with_len}
use Rattle.cy_values.specs.declared.rows.Cell.{Cell}
use Rattle.cy_values.specs.declared.rows.Cell.TheVariants as cell
use Rattle.cy_graph.specs.Graph.{Content}
use Rattle.cy_planner_algebra.specs.Plans as plan
use Rattle.cy_planner_algebra.specs.Plans.{Plan, Output, width}
use Rattle.cy_planner_algebra.specs.Expressions.{cell_at}
use Rattle.cy_planner_algebra.specs.Meaning.{attribute_of}
use Rattle.cy_planner_rows.specs.declared.places.Wanted.{Wanted}
use Rattle.cy_planner_rows.specs.Columns.{column_output}

-- a plan with look-ups on top, one after another
abbrev pub over : Plan → List Wanted → Plan
over p [] = p
over p (w ∷ wanted) = over (plan.lookup p w.column w.attribute) wanted

-- what look-ups add to a row
abbrev pub value_on : Content → List Cell → Wanted → Cell
value_on graph row w = cell.Value (attribute_of graph w.attribute (cell_at row w.column))

abbrev pub with_values : Content → List Wanted → List Cell → List Cell
with_values graph wanted row = row ++ map (value_on graph row) wanted

-- a projection to the first columns
abbrev pub first_columns : ℕ → List Output
first_columns count = map column_output (range_with_len 0 count)

-- a plan's first columns; itself, if it has no more
abbrev pub narrowed : ℕ → Plan → Plan
narrowed count p = if width p == count then p else plan.project p (first_columns count)
