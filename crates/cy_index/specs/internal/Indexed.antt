-- What the indexes keep stands for the graph.
use Rattle.std.specs.Prelude.{◌≡◌, ℕ, ◌-◌, ◌<◌, Bool, false, not, ◌&&◌, ◌||◌, List, length, drop, Option, None, nat_eq}
use Rattle.std.specs.List.{list_any}
use Rattle.std.specs.Option.{option_and_then, option_map_or, ForSome}
use Rattle.cy_values.specs.declared.numbers.NodeId.{NodeId}
use Rattle.cy_values.specs.declared.scalars.Value.{Value}
use Rattle.cy_graph.specs.declared.nodes.Node.{Node}
use Rattle.cy_graph.specs.Graph.{State, Versions, node_at}
use Rattle.cy_graph.specs.Maps.{value_at}
use Rattle.cy_index.specs.declared.keys.Key.{Key}
use Rattle.cy_index.specs.declared.keys.Pair.{Pair}
use Rattle.cy_index.specs.internal.Postings.{Version, latest, stands}
use Rattle.cy_index.specs.internal.Under.{among, same_key, is_key_of, is_here, is_same}

-- whether the node, if there is one, stands under the key
abbrev pub stands_by : List Pair → Key → Option Node → Bool
stands_by chosen k node = option_map_or (λ (n : Node). is_key_of chosen n.labels n.props k) node false

-- whether the node under the number stands under the key
abbrev pub stands_at : List Pair → Key → ℕ → State → Bool
stands_at chosen k n state = stands_by chosen k (node_at (record { 0 = n }) state)

-- where the one node stands at the place of the other, it left these keys, and came under those
abbrev pub Turns : List Pair → Option Node → Option Node → List Key → List Key → Type 0
Turns chosen old new leaving coming = (k : Key) → stands_by chosen k new ≡ (among k coming || (not (among k leaving) && stands_by chosen k old))

-- what stands under each key is what the graph's nodes stand under
abbrev pub Matches : List Pair → State → Version Key → Type 0
Matches chosen state v = (k : Key) (n : ℕ) → stands same_key k n v ≡ stands_at chosen k n state

-- the newest version matches the graph as it is, the oldest one the graph as it was, and with no change open there is one
pub record IsIndexed (chosen : List Pair) (graph : Versions) (kept : List (Version Key)) : Type 0 where
  pub some : 0 < length kept
  pub now : Matches chosen graph.now (latest kept)
  pub was : ForSome graph.was (λ before. Matches chosen before (latest (drop (length kept - 1) kept)))
  pub closed : graph.was ≡ None → length kept ≡ 1

-- the value of a node in the index for this pair
abbrev pub value_of : Pair → Node → Option Value
value_of pair node = option_and_then (λ _. value_at pair.key node.props) (value_at pair.label node.labels)

-- whether a node stands under the key in the index for this pair, at this place
abbrev pub is_in_index : ℕ → Pair → Node → Key → Bool
is_in_index place pair node k = is_here place (λ value. is_same value (value_of pair node)) k

-- whether one of these nodes has the number, and stands under the key in that index
abbrev pub is_listed : ℕ → Pair → Key → ℕ → List (NodeId × Node) → Bool
is_listed place pair k n nodes = list_any (λ e. nat_eq n e.0.0 && is_in_index place pair e.1 k) nodes

-- these nodes came into the index for this pair, at this place, and all else is as it was
abbrev pub Fills : ℕ → Pair → List (NodeId × Node) → Version Key → Version Key → Type 0
Fills place pair nodes old new = (k : Key) (n : ℕ) → stands same_key k n new ≡ (stands same_key k n old || is_listed place pair k n nodes)
