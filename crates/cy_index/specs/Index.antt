-- A store: its graph, the pairs of a label and a key that were chosen for an index, and what its look-ups find (own).
use Rattle.std.specs.Prelude.{ℕ, Bool, ◌&&◌, List, map, filter}
use Rattle.std.specs.List.{list_any}
use Rattle.std.specs.Str.{bytes_eq}
use Rattle.cy_values.specs.declared.numbers.NodeId.{NodeId}
use Rattle.cy_values.specs.declared.scalars.Value.{Value}
use Rattle.cy_graph.specs.declared.nodes.Node.{Node}
use Rattle.cy_graph.specs.Graph.{Content, Versions, has_label}
use Rattle.cy_graph.specs.Maps.{is_value_at}
use Rattle.cy_index.specs.declared.keys.Pair.{Pair}

-- a store: the graph as it is and as it was when the open change began, and the chosen pairs in the order of choosing
pub record StoreState : Type 0 where
  pub graph : Versions
  pub chosen : List Pair

-- what is lent of an open change: the graph, and how many of its entities were read
pub record SightState : Type 0 where
  pub graph : Versions
  pub reads : ℕ

-- whether the property of the node at the key is equal to the value, by `=` (openCypher 9; lists: own)
abbrev pub has_value : List ℕ → Value → Node → Bool
has_value key value node = is_value_at key value node.props

-- the nodes that pass a test, by rising number
abbrev pub nodes_where : (Node → Bool) → Content → List NodeId
nodes_where test content = map (λ e. e.0) (filter (λ e. test e.1) content.nodes)

-- the nodes with the label, by rising number
abbrev pub labelled_nodes : List ℕ → Content → List NodeId
labelled_nodes label = nodes_where (has_label label)

-- those of them whose property at the key is equal to the value
abbrev pub found_nodes : List ℕ → List ℕ → Value → Content → List NodeId
found_nodes label key value = nodes_where (λ node. has_label label node && has_value key value node)

-- whether the pair is this one
abbrev pub is_pair : List ℕ → List ℕ → Pair → Bool
is_pair label key pair = bytes_eq pair.label label && bytes_eq pair.key key

-- whether there is an index for the label and the key
abbrev pub has_pair : List ℕ → List ℕ → List Pair → Bool
has_pair label key chosen = list_any (is_pair label key) chosen
