-- The rows of single entities.
use Rattle.std.specs.Prelude.{ℕ, List, [], ◌∷◌, Option, None, Some}
use Rattle.cy_values.specs.declared.rows.Cell.{Cell}
use Rattle.cy_values.specs.declared.rows.Cell.TheVariants as cell
use Rattle.cy_trees.specs.Trees.{Name}
use Rattle.cy_graph.specs.declared.nodes.Node.{Node}
use Rattle.cy_graph.specs.declared.nodes.Rel.{Rel}
use Rattle.cy_planner_algebra.specs.declared.operators.Orientation.{Orientation}
use Rattle.cy_planner_algebra.specs.Meaning.{rows_of_rel}

-- the row of a node, if it is there, and those of a relationship
abbrev pub node_rows : ℕ → Option Node → List (List Cell)
node_rows number None = []
node_rows number (Some node) = (cell.Node (record { 0 = number }) ∷ []) ∷ []

abbrev pub rel_rows : List Name → Orientation → ℕ → Option Rel → List (List Cell)
rel_rows types orientation number None = []
rel_rows types orientation number (Some rel) = rows_of_rel types orientation (record { 0 = number }, rel)
