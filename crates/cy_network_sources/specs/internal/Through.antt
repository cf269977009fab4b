-- What the operators of a scan make of the rows of one entity.
use Rattle.std.specs.Prelude.{ℕ, Bool, true, false, ◌≡◌, ◌++◌, ⊤, List, [], ◌∷◌, Option, None, Some, if◌then◌else◌, map}
use Rattle.std.specs.Prelude as std
use Rattle.std.specs.List.{All, list_any}
use Rattle.std.specs.Str.{bytes_eq}
use Rattle.cy_values.specs.declared.scalars.Value.{Value}
use Rattle.cy_values.specs.declared.rows.Cell.{Cell}
use Rattle.cy_values.specs.declared.rows.Cell.TheVariants as cell
use Rattle.cy_values.specs.Bag.{count_of}
use Rattle.cy_trees.specs.Trees.{Name}
use Rattle.cy_graph.specs.declared.nodes.Node.{Node}
use Rattle.cy_graph.specs.declared.nodes.Rel.{Rel}
use Rattle.cy_graph.specs.Graph.{State}
use Rattle.cy_expr.specs.Lookups.{IsNumbered}
use Rattle.cy_expr.specs.Graphs.{are_different}
use Rattle.cy_planner_algebra.specs.declared.operators.Attribute.{Attribute}
use Rattle.cy_planner_algebra.specs.declared.operators.Attribute.TheVariants.{Labels}
use Rattle.cy_planner_algebra.specs.declared.operators.Orientation.{Orientation}
use Rattle.cy_planner_algebra.specs.Expressions.{holds, projected, relationships_at}
use Rattle.cy_planner_algebra.specs.Plans as plan
use Rattle.cy_planner_algebra.specs.Plans.{Plan}
use Rattle.cy_planner_algebra.specs.Sure.{HasCells, HasTruth}
use Rattle.cy_network_memory.specs.declared.memory.RowDelta.{RowDelta}
use Rattle.cy_network_operators.specs.Deltas.{row_delta_between}
use Rattle.cy_network_sources.specs.Changes.{Touches}
use Rattle.cy_network_sources.specs.Scans.{IsScan}
use Rattle.cy_network_sources.specs.declared.entities.EntityValue.{EntityValue}
use Rattle.cy_network_sources.specs.declared.entities.EntityValue.TheVariants as entity
use Rattle.cy_network_sources.specs.Attributes.{node_attribute, rel_attribute}
use Rattle.cy_network_sources.specs.internal.Rows.{node_rows, rel_rows}

-- an attribute of an entity that is there
abbrev pub attribute_in : EntityValue → Attribute → Value
attribute_in (entity.Node node) attribute = node_attribute attribute (Some node.now)
attribute_in (entity.Rel rel) attribute = rel_attribute attribute (Some rel.now)

-- what an operator makes of rows of one entity, whose attributes are given
abbrev pub made_by : (Attribute → Value) → Plan → List (List Cell) → List (List Cell)
made_by value_of plan.unit rows = rows
made_by value_of plan.nodes rows = rows
made_by value_of (plan.rels types orientation) rows = rows
made_by value_of (plan.join left right keys) rows = rows
made_by value_of (plan.outer left right keys test) rows = rows
made_by value_of (plan.semi left right keys keeping) rows = rows
made_by value_of (plan.lookup p column attribute) rows = map (λ row. row ++ cell.Value (value_of attribute) ∷ []) rows
made_by value_of (plan.filter p test) rows = std.filter (holds test) rows
made_by value_of (plan.all_different p columns) rows = std.filter (λ row. are_different (relationships_at columns row)) rows
made_by value_of (plan.project p outputs) rows = map (projected outputs) rows
made_by value_of (plan.distinct p) rows = rows
made_by value_of (plan.union left right) rows = rows

-- what several operators make, the last one first
abbrev pub through : (Attribute → Value) → List Plan → List (List Cell) → List (List Cell)
through value_of [] rows = rows
through value_of (p ∷ ps) rows = made_by value_of p (through value_of ps rows)

-- the expressions of an operator have no fault on the rows that it gets
abbrev pub IsFit : Plan → List (List Cell) → Type 0
IsFit plan.unit rows = ⊤
IsFit plan.nodes rows = ⊤
IsFit (plan.rels types orientation) rows = ⊤
IsFit (plan.join left right keys) rows = ⊤
IsFit (plan.outer left right keys test) rows = ⊤
IsFit (plan.semi left right keys keeping) rows = ⊤
IsFit (plan.lookup p column attribute) rows = ⊤
IsFit (plan.filter p test) rows = All (HasTruth test) rows × All (All IsNumbered) rows
IsFit (plan.all_different p columns) rows = ⊤
IsFit (plan.project p outputs) rows = All (HasCells outputs) rows × All (All IsNumbered) rows
IsFit (plan.distinct p) rows = ⊤
IsFit (plan.union left right) rows = ⊤

-- those of several
abbrev pub AreFit : (Attribute → Value) → List Plan → List (List Cell) → Type 0
AreFit value_of [] rows = ⊤
AreFit value_of (p ∷ ps) rows = IsFit p (through value_of ps rows) × AreFit value_of ps rows

-- the rows of a node in a scan with these operators, if it is there, and those of a relationship
abbrev pub node_made : List Plan → ℕ → Option Node → List (List Cell)
node_made ps number None = []
node_made ps number (Some node) = through (λ a. node_attribute a (Some node)) ps (node_rows number (Some node))

abbrev pub rel_made : List Name → Orientation → List Plan → ℕ → Option Rel → List (List Cell)
rel_made types orientation ps number None = []
rel_made types orientation ps number (Some rel) = through (λ a. rel_attribute a (Some rel)) ps (rel_rows types orientation number (Some rel))

-- the operators are fit for it
abbrev pub IsNodeFit : List Plan → ℕ → Option Node → Type 0
IsNodeFit ps number None = ⊤
IsNodeFit ps number (Some node) = AreFit (λ a. node_attribute a (Some node)) ps (node_rows number (Some node))

abbrev pub IsRelFit : List Name → Orientation → List Plan → ℕ → Option Rel → Type 0
IsRelFit types orientation ps number None = ⊤
IsRelFit types orientation ps number (Some rel) = AreFit (λ a. rel_attribute a (Some rel)) ps (rel_rows types orientation number (Some rel))

-- the row of a node with its labels
abbrev pub labelled : ℕ → Node → List Cell
labelled number node = cell.Node (record { 0 = number }) ∷ cell.Value (node_attribute Labels (Some node)) ∷ []

-- these operators make a node's row with its labels of it, if it has this label, and no row otherwise
abbrev pub IsLabelTest : Name → List Plan → Type 0
IsLabelTest label ps =
    (number : ℕ) (node : Node) → node_made ps number (Some node) ≡ (if list_any (bytes_eq label) (map (λ l. l.0) node.labels) then labelled number node ∷ [] else [])

-- these operators leave a node's row as it is
abbrev pub LeaveNode : Node → List Plan → Type 0
LeaveNode node ps = (number : ℕ) → node_made ps number (Some node) ≡ node_rows number (Some node)

-- a node without this label has no row in a scan with these operators
abbrev pub IsNeeded : Name → List Plan → Type 0
IsNeeded label ps = (number : ℕ) (node : Node) → list_any (bytes_eq label) (map (λ l. l.0) node.labels) ≡ false → node_made ps number (Some node) ≡ []

-- the row delta of a row that counts by the one rows before and by the others after
abbrev pub recounted : List (List Cell) → List (List Cell) → List Cell → List RowDelta
recounted old new row = row_delta_between row (count_of row old) (count_of row new)

-- the operator that reads the graph
abbrev pub leaf_of : Plan → Plan
leaf_of plan.unit = plan.unit
leaf_of plan.nodes = plan.nodes
leaf_of (plan.rels types orientation) = plan.rels types orientation
leaf_of (plan.join left right keys) = plan.join left right keys
leaf_of (plan.outer left right keys test) = plan.outer left right keys test
leaf_of (plan.semi left right keys keeping) = plan.semi left right keys keeping
leaf_of (plan.lookup p column attribute) = leaf_of p
leaf_of (plan.filter p test) = leaf_of p
leaf_of (plan.all_different p columns) = leaf_of p
leaf_of (plan.project p outputs) = leaf_of p
leaf_of (plan.distinct p) = plan.distinct p
leaf_of (plan.union left right) = plan.union left right

-- an operator reads the graph, and gives its entities
abbrev pub reads_graph : Plan → Bool
reads_graph plan.unit = false
reads_graph plan.nodes = true
reads_graph (plan.rels types orientation) = true
reads_graph (plan.join left right keys) = false
reads_graph (plan.outer left right keys test) = false
reads_graph (plan.semi left right keys keeping) = false
reads_graph (plan.lookup p column attribute) = false
reads_graph (plan.filter p test) = false
reads_graph (plan.all_different p columns) = false
reads_graph (plan.project p outputs) = false
reads_graph (plan.distinct p) = false
reads_graph (plan.union left right) = false

-- a scan with these operators over the last of them, over a change from one graph to another
pub record IsScanOver (before now : State) (touches : Touches) (given : List Plan) (last p : Plan) : Type 0 where
  pub scan : IsScan before now touches given p
  pub leaf : leaf_of p ≡ last
