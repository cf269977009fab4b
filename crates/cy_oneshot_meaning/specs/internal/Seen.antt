-- Rows with what their keys see, and with their keys.
use Rattle.std.specs.Prelude.{ℕ, List, ◌++◌, map, take, Option, Result, Ok}
use Rattle.cy_values.specs.declared.rows.Cell.{Cell}
use Rattle.cy_trees.specs.Trees.{Expression, Key}
use Rattle.cy_graph.specs.Graph.{Content}
use Rattle.cy_expr.specs.declared.faults.EvalFault.{EvalFault}
use Rattle.cy_expr.specs.Evaluation.{cell_of}
use Rattle.cy_expr.specs.Faults.{on_one}
use Rattle.cy_expr.specs.Graphs.{lookups}
use Rattle.cy_oneshot_meaning.specs.Order.{Keyed}
use Rattle.cy_oneshot_patterns.specs.Outcomes.{gathered}
use Rattle.cy_oneshot_meaning.specs.Groups.{looked_at_with}
use Rattle.cy_oneshot_meaning.specs.Projection.{Projected, key_cell}

-- a row with the cells that its keys see after it; it has this many cells itself
abbrev pub projected_of : ℕ → List Cell → Projected
projected_of width seen = record { row = take width seen; seen = seen }

-- what expressions give on a row
abbrev pub cells_by : Content → List Expression → List Cell → Result (List Cell) EvalFault
cells_by graph expressions row = gathered (map (λ e. cell_of (lookups graph) row e) expressions)

-- what they give; where they fault, other ones are looked at too, and the smallest code counts
abbrev pub key_by : Content → List Expression → List Expression → List Cell → Result (List Cell) EvalFault
key_by graph expressions others row = looked_at_with (cells_by graph expressions row) (cells_by graph others row)

-- what they give, and the row after it
abbrev pub seen_by : Content → List Expression → List Cell → Result (List Cell) EvalFault
seen_by graph expressions before = on_one (λ row. Ok (row ++ before)) (cells_by graph expressions before)

-- a row with what these keys give on it
abbrev pub keyed_by : Content → List (Option ℕ × Key) → Projected → Result Keyed EvalFault
keyed_by graph keys r =
    on_one (λ cells. Ok (record { row = r.row; keys = cells })) (gathered (map (λ k. key_cell graph r k.0 k.1.expression) keys))
