-- Plans whose rows count no more than the rows of some tables. (own)
use Rattle.std.specs.Prelude.{ℕ, ◌≤◌, ◌⊎◌, List}
use Rattle.std.specs.List.{Contains}
use Rattle.cy_values.specs.declared.rows.Cell.{Cell}
use Rattle.cy_values.specs.Bag.{count_of}
use Rattle.cy_graph.specs.Graph.{Content}
use Rattle.cy_planner_algebra.specs.Plans.{Plan}
use Rattle.cy_planner_algebra.specs.Meaning.{rows_of}

-- a row counts once at most, or no more than some row of some of the tables
abbrev pub CountsWithin : List (List (List Cell)) → ℕ → Type 0
CountsWithin tables count = (count ≤ 1) ⊎ ((table : List (List Cell)) × Contains tables table × ((row : List Cell) × (count ≤ count_of row table)))

-- no row of a plan counts more
abbrev pub IsWithin : Content → List (List (List Cell)) → Plan → Type 0
IsWithin graph tables p = (row : List Cell) → CountsWithin tables (count_of row (rows_of graph p))
