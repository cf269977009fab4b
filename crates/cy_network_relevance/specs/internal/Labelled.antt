-- Conditions that ask for a label of nodes.
use Rattle.std.specs.Prelude.{◌≡◌, ℕ, true, List, [], ◌∷◌, Some, map}
use Rattle.std.specs.List.{AllByRecursion, list_any}
use Rattle.std.specs.Str.{bytes_eq}
use Rattle.cy_values.specs.declared.rows.Cell.{Cell}
use Rattle.cy_values.specs.declared.rows.Cell.TheVariants as cell
use Rattle.cy_values.specs.declared.scalars.Scalar.TheVariants as scalar
use Rattle.cy_values.specs.declared.scalars.Value.TheVariants as value
use Rattle.cy_trees.specs.Trees.{Expression, Name}
use Rattle.cy_graph.specs.declared.nodes.Node.{Node}
use Rattle.cy_planner_algebra.specs.declared.operators.Attribute.TheVariants.{Labels}
use Rattle.cy_planner_algebra.specs.Expressions.{cell_at, holds}
use Rattle.cy_planner_algebra.specs.Plans as plan
use Rattle.cy_planner_algebra.specs.Plans.{Plan}
use Rattle.cy_network_sources.specs.Scans.{scan_column, scan_parts}
use Rattle.cy_network_sources.specs.Attributes.{node_attribute}
use Rattle.cy_network_sources.specs.internal.Through.{IsNeeded, leaf_of, node_made}

-- a condition holds on no row whose second cell is a list of labels without this one
abbrev pub Asks : Name → Expression → Type 0
Asks label test =
    (row : List Cell) (labels : List Name) → cell_at row 1 ≡ cell.Value (value.List (map (λ l. scalar.Text l) labels)) → holds test row ≡ true → list_any (bytes_eq label) labels ≡ true

-- the first two cells of a row: anything, and the list of a node's labels
abbrev pub IsLabelled : Node → List Cell → Type 0
IsLabelled node row = (first : Cell) × (others : List Cell) × (row ≡ first ∷ cell.Value (node_attribute Labels (Some node)) ∷ others)

-- a row of one cell
abbrev pub IsOne : List Cell → Type 0
IsOne row = (first : Cell) × (row ≡ first ∷ [])

-- an operator is a scan of nodes that names them in the first column
pub record NamesNodes (p : Plan) : Type 0 where
  pub column : scan_column p ≡ Some 0
  pub leaf : leaf_of p ≡ plan.nodes

-- so it is, and its rows have one cell
pub record IsSingle (p : Plan) : Type 0 where
  pub names : NamesNodes p
  pub single : (number : ℕ) (node : Node) → AllByRecursion IsOne (node_made (scan_parts p) number (Some node))

-- so it is, and its rows have the labels of the node in the second column
pub record HasLabels (p : Plan) : Type 0 where
  pub names : NamesNodes p
  pub labelled : (number : ℕ) (node : Node) → AllByRecursion (IsLabelled node) (node_made (scan_parts p) number (Some node))

-- so it is, and no node without this label has a row
pub record LacksWithout (label : Name) (p : Plan) : Type 0 where
  pub names : NamesNodes p
  pub needed : IsNeeded label (scan_parts p)
