-- CREATE: what it makes for one row. (openCypher 9, CREATE; the order of numbers, and faults: own)
--
-- The places of a pattern answer with their faults in the order of the text. A node place whose variable is bound is that node; any
-- other place is a new node or relationship, under the next number of its series. A relationship is made once the node after it is
-- there. The two series are apart, so this is the graph that results from making all new nodes of a path before its relationships.
use Rattle.std.specs.Prelude.{ℕ, ◌==◌, if◌then◌else◌, List, [], ◌∷◌, ◌++◌, slice_get, slice_index_or, Option, None, Some, Result, Ok, Err}
use Rattle.std.specs.Option.{option_and_then, option_map_or}
use Rattle.cy_values.specs.declared.numbers.NodeId.{NodeId}
use Rattle.cy_values.specs.declared.numbers.RelId.{RelId}
use Rattle.cy_values.specs.declared.rows.Cell.{Cell}
use Rattle.cy_values.specs.declared.rows.Cell.TheVariants as cell
use Rattle.cy_trees.specs.declared.clauses.Direction.{Direction}
use Rattle.cy_trees.specs.declared.clauses.Direction.TheVariants.{Left}
use Rattle.cy_trees.specs.declared.expressions.Variable.{Variable}
use Rattle.cy_trees.specs.Trees.{Name, NodePattern, RelationshipPattern, Step, Path}
use Rattle.cy_graph.specs.Graph.{State, number_end, with_node, with_rel}
use Rattle.cy_graph.specs.declared.nodes.Rel.{Rel}
use Rattle.cy_oneshot_patterns.specs.Places.{node, column_at}
use Rattle.cy_updates_meaning.specs.declared.faults.UpdateFault.{UpdateFault}
use Rattle.cy_updates_meaning.specs.declared.faults.UpdateFault.TheVariants.{NullEndpoint, Full}
use Rattle.cy_updates_meaning.specs.Faults.{◌>>=◌, each_in_turn}
use Rattle.cy_updates_meaning.specs.Values.{label_set, map_properties}

-- how far the clause has come on a row: the graph, the row with a column for each new variable, and, within a path, the node at
-- the place before, if that isn't null
pub record Creation : Type 0 where
  pub graph : State
  pub row : List Cell
  pub last : Option NodeId

-- the next numbers
abbrev pub next_node : State → NodeId
next_node graph = record { 0 = graph.next_node }

abbrev pub next_relationship : State → RelId
next_relationship graph = record { 0 = graph.next_rel }

-- a number is left
abbrev pub unless_full : ℕ → Result (Unit {0}) UpdateFault
unless_full next = if next == number_end then Err Full else Ok tt

-- a new variable has what was made in its column
abbrev pub with_column : Option Variable → Cell → List Cell → List Cell
with_column None c row = row
with_column (Some v) c row = row ++ c ∷ []

-- the node in a cell, if it isn't null
abbrev pub node_in_cell : Cell → Option NodeId
node_in_cell (cell.Node id) = Some id
node_in_cell c = None

-- what the variable of a node place is bound to, before the clause or in it: then the row has a cell in its column
abbrev pub bound_to : NodePattern → List Cell → Option Cell
bound_to n row = option_and_then (slice_get row) (column_at (node n))

-- the node at a place: the bound one, if that isn't null, else the next new one
abbrev pub node_at_place : NodePattern → Creation → Option NodeId
node_at_place n so_far = option_map_or node_in_cell (bound_to n so_far.row) (Some (next_node so_far.graph))

-- a new node, with its labels and the properties that its map makes on the row before the clause
abbrev pub with_new_node : List Cell → NodePattern → Creation → Result Creation UpdateFault
with_new_node before n so_far =
    map_properties so_far.graph before n.properties >>= λ props.
    unless_full so_far.graph.next_node >>= λ _.
    Ok (record {
      graph = with_node (record { labels = label_set n.labels; props = props }) so_far.graph;
      row = with_column n.variable (cell.Node (next_node so_far.graph)) so_far.row;
      last = Some (next_node so_far.graph);
    })

abbrev pub with_node_if : List Cell → NodePattern → Option Cell → Creation → Result Creation UpdateFault
with_node_if before n (Some c) so_far = Ok (record so_far { last = node_in_cell c })
with_node_if before n None so_far = with_new_node before n so_far

abbrev pub with_node_place : List Cell → NodePattern → Creation → Result Creation UpdateFault
with_node_place before n so_far = with_node_if before n (bound_to n so_far.row) so_far

-- a relationship joins two nodes, neither of them null
abbrev pub ends_of : Option NodeId → Option NodeId → Result (NodeId × NodeId) UpdateFault
ends_of (Some left) (Some right) = Ok (left, right)
ends_of _ _ = Err NullEndpoint

-- it points from the node at its left to that at its right, or the other way round
abbrev pub source_of : Direction → NodeId → NodeId → NodeId
source_of Left left right = right
source_of _ left right = left

abbrev pub target_of : Direction → NodeId → NodeId → NodeId
target_of Left left right = left
target_of _ left right = right

-- its one type
abbrev pub type_of : List Name → Name
type_of types = slice_index_or types 0 []

-- The relationship of a place, from the node at its left to that at its right or the other way round. The place answers with the
-- faults of its map first, then where an end is null, then where no number is left.
abbrev pub new_relationship : List Cell → RelationshipPattern → Option NodeId → Creation → Result Rel UpdateFault
new_relationship before r right so_far =
    map_properties so_far.graph before r.properties >>= λ props.
    ends_of so_far.last right >>= λ ends.
    unless_full so_far.graph.next_rel >>= λ _.
    Ok (record {
      source = source_of r.direction ends.0 ends.1;
      target = target_of r.direction ends.0 ends.1;
      kind = type_of r.types;
      props = props;
    })

-- with the column of a relationship's variable, which comes before that of the next node's
abbrev pub with_relationship_column : RelationshipPattern → Creation → Creation
with_relationship_column r so_far = record so_far { row = with_column r.variable (cell.Rel (next_relationship so_far.graph)) so_far.row }

-- a relationship and the node after it
abbrev pub with_relationship : List Cell → Step → Creation → Result Creation UpdateFault
with_relationship before s so_far =
    new_relationship before s.relationship (node_at_place s.node so_far) so_far >>= λ made.
    with_node_place before s.node so_far >>= λ next.
    Ok (record next { graph = with_rel made next.graph })

abbrev pub with_step : List Cell → Step → Creation → Result Creation UpdateFault
with_step before s so_far = with_relationship before s (with_relationship_column s.relationship so_far)

-- a path from left to right, and the paths of a clause from left to right
abbrev pub with_path : List Cell → Path → Creation → Result Creation UpdateFault
with_path before p so_far = with_node_place before p.start so_far >>= λ next. each_in_turn (with_step before) p.steps next

abbrev pub created : State → List Path → List Cell → Result Creation UpdateFault
created graph paths row = each_in_turn (with_path row) paths (record { graph = graph; row = row; last = None })
