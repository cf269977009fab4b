-- The graph and its content, as it is and as it was when the open change began. (Francis et al., property graphs; numbers, and one
-- change at a time: own)
use Rattle.std.specs.Prelude.{ℕ, ◌+◌, ◌^◌, ◌≤◌, ◌<◌, not, eqb, ◌||◌, map, filter, List, [], ◌∷◌, ◌++◌, Option, None, Some, IsSome, IsTrue, Bool, is_some}
use Rattle.std.specs.Option.{option_map}
use Rattle.std.specs.List.{AllByRecursion}
use Rattle.std.specs.declared.cmp.Ordering.{Ordering}
use Rattle.std.specs.Ordering.{nat_cmp, eq_by_cmp}
use Rattle.std.specs.FinMap.Entries as entries
use Rattle.cy_values.specs.declared.numbers.NodeId.{NodeId}
use Rattle.cy_values.specs.declared.numbers.RelId.{RelId}
use Rattle.cy_values.specs.declared.numbers.Entity.{Entity}
use Rattle.cy_values.specs.declared.numbers.Entity.TheVariants as entity
use Rattle.cy_values.specs.declared.scalars.Value.{Value}
use Rattle.cy_graph.specs.Maps.{rises, with_value, without, value_at}
use Rattle.cy_graph.specs.declared.nodes.Node.{Node}
use Rattle.cy_graph.specs.declared.nodes.Rel.{Rel}
use Rattle.cy_graph.specs.Stored.{IsStorable}

-- nodes by their numbers
abbrev pub node_order : NodeId → NodeId → Ordering
node_order m n = nat_cmp m.0 n.0

-- relationships by theirs
abbrev pub rel_order : RelId → RelId → Ordering
rel_order m n = nat_cmp m.0 n.0

-- what a graph holds: its nodes and its relationships under their numbers, by rising number. Two graphs have the same
-- content where these lists are equal (Francis et al.)
pub record Content : Type 0 where
  pub nodes : List (NodeId × Node)
  pub rels : List (RelId × Rel)

-- a graph: what it holds, and the next number of each series
pub record State : Type 0 where
  pub content : Content
  pub next_node : ℕ
  pub next_rel : ℕ

-- a graph as it is and, while a change is open, as it was when the change began
pub record Versions : Type 0 where
  pub now : State
  pub was : Option State

-- the first number that is never given out
abbrev pub number_end : ℕ
number_end = 2 ^ 40 + 1

-- a graph with nothing in it, whose next numbers are these
abbrev pub empty_state : ℕ → ℕ → State
empty_state node rel = record { content = record { nodes = []; rels = [] }; next_node = node; next_rel = rel }

-- the node, and the relationship, under a number
abbrev pub node_in : Content → NodeId → Option Node
node_in content id = entries.find node_order id content.nodes

abbrev pub relationship_in : Content → RelId → Option Rel
relationship_in content id = entries.find rel_order id content.rels

-- whether the entity is there
abbrev pub is_entity_in : Content → Entity → Bool
is_entity_in content (entity.Node id) = is_some (node_in content id)
is_entity_in content (entity.Rel id) = is_some (relationship_in content id)

-- the node under the number in a graph, if there is one
abbrev pub node_at : NodeId → State → Option Node
node_at id state = node_in state.content id

abbrev pub rel_at : RelId → State → Option Rel
rel_at id state = relationship_in state.content id

-- whether the node has the label
abbrev pub has_label : List ℕ → Node → Bool
has_label label node = is_some (value_at label node.labels)

-- the relationships of which the node is the source, and those of which it is the target, by rising number
abbrev pub outgoing : NodeId → List (RelId × Rel) → List (RelId × Rel)
outgoing node rels = filter (λ e. eqb node.0 e.1.source.0) rels

abbrev pub incoming : NodeId → List (RelId × Rel) → List (RelId × Rel)
incoming node rels = filter (λ e. eqb node.0 e.1.target.0) rels

-- the numbers of those of which it is either
abbrev pub rels_with : NodeId → List (RelId × Rel) → List RelId
rels_with node rels = map (λ e. e.0) (filter (λ e. eqb node.0 e.1.source.0 || eqb node.0 e.1.target.0) rels)

-- the graph with one more node, under the next number
abbrev pub with_node : Node → State → State
with_node node state = record state {
  content = record state.content { nodes = state.content.nodes ++ (record { 0 = state.next_node }, node) ∷ [] };
  next_node = state.next_node + 1;
}

-- the graph with one more relationship, under the next number
abbrev pub with_rel : Rel → State → State
with_rel rel state = record state {
  content = record state.content { rels = state.content.rels ++ (record { 0 = state.next_rel }, rel) ∷ [] };
  next_rel = state.next_rel + 1;
}

-- the properties with the value at the key, or with nothing there
abbrev pub set_or_removed : List ℕ → Option Value → List (List ℕ × Value) → List (List ℕ × Value)
set_or_removed key None props = without key props
set_or_removed key (Some value) props = with_value key value props

-- the node with that property
abbrev pub set_at : List ℕ → Option Value → Node → Node
set_at key value node = record node { props = set_or_removed key value node.props }

-- the relationship with that property
abbrev pub rel_set_at : List ℕ → Option Value → Rel → Rel
rel_set_at key value rel = record rel { props = set_or_removed key value rel.props }

-- the node with the label, and all else as it was
abbrev pub with_label : List ℕ → Node → Node
with_label label node = record node { labels = with_value label tt node.labels }

-- the node without the label, and all else as it was
abbrev pub without_label : List ℕ → Node → Node
without_label label node = record node { labels = without label node.labels }

module _ {N V : Type 0} (order : N → N → Ordering) where
  -- the entries with this value under the number; where none is given, as they were
  abbrev pub put_at : N → Option V → List (N × V) → List (N × V)
  put_at id None es = es
  put_at id (Some v) es = entries.put order id v es

  -- the entries without the one under the number
  abbrev pub without_at : N → List (N × V) → List (N × V)
  without_at id = entries.where_key order (λ k. not (eq_by_cmp order id k))

-- the nodes with this one under the number, where it has one already
abbrev pub replaced : NodeId → Option Node → List (NodeId × Node) → List (NodeId × Node)
replaced = put_at node_order

-- the graph with other nodes, and all else as it was
abbrev pub with_nodes : List (NodeId × Node) → State → State
with_nodes nodes state = record state { content = record state.content { nodes = nodes } }

-- the graph with other relationships, and all else as it was
abbrev pub with_rels : List (RelId × Rel) → State → State
with_rels rels state = record state { content = record state.content { rels = rels } }

-- the graph with another node under the number, made of the one that is there, and all else as it was
abbrev pub with_node_changed : NodeId → (Node → Node) → State → State
with_node_changed id change state = with_nodes (replaced id (option_map change (node_at id state)) state.content.nodes) state

-- the relationships with this one under the number, where it has one already
abbrev pub replaced_rel : RelId → Option Rel → List (RelId × Rel) → List (RelId × Rel)
replaced_rel = put_at rel_order

-- the graph with another relationship under the number, made of the one that is there, and all else as it was
abbrev pub with_rel_changed : RelId → (Rel → Rel) → State → State
with_rel_changed id change state = with_rels (replaced_rel id (option_map change (rel_at id state)) state.content.rels) state

-- whether the entity is in the graph
abbrev pub IsThere : Entity → State → Type 0
IsThere entity state = IsTrue (is_entity_in state.content entity)

-- the graph with the property of the entity set to the value, or with no such property where none is given, and
-- all else as it was
abbrev pub with_prop : Entity → List ℕ → Option Value → State → State
with_prop (entity.Node id) key value state = with_node_changed id (set_at key value) state
with_prop (entity.Rel id) key value state = with_rel_changed id (rel_set_at key value) state

-- the graph without the node, and all else as it was; its number stays given out
abbrev pub without_node : NodeId → State → State
without_node id state = with_nodes (without_at node_order id state.content.nodes) state

-- the graph without the relationship, and all else as it was; its number stays given out
abbrev pub without_rel : RelId → State → State
without_rel id state = with_rels (without_at rel_order id state.content.rels) state

-- every number in use is at least 1 and below the next one, numbers rise, the labels and the keys of each node rise, so
-- that each content has one form, values are such as can be stored, the ends of each relationship are nodes, and the next
-- numbers are within bounds
pub record IsGraph (state : State) : Type 0 where
  pub rising : IsTrue (entries.is_sorted node_order state.content.nodes)
  pub numbered : AllByRecursion (λ (e : NodeId × Node). (1 ≤ e.0.0) × (e.0.0 < state.next_node)) state.content.nodes
  pub in_form : AllByRecursion (λ (e : NodeId × Node). IsTrue (rises e.1.labels) × IsTrue (rises e.1.props)) state.content.nodes
  pub stored : AllByRecursion (λ (e : NodeId × Node). IsStorable e.1.props) state.content.nodes
  pub rels_rising : IsTrue (entries.is_sorted rel_order state.content.rels)
  pub rels_numbered : AllByRecursion (λ (e : RelId × Rel). (1 ≤ e.0.0) × (e.0.0 < state.next_rel)) state.content.rels
  pub rels_in_form : AllByRecursion (λ (e : RelId × Rel). IsTrue (rises e.1.props)) state.content.rels
  pub rels_stored : AllByRecursion (λ (e : RelId × Rel). IsStorable e.1.props) state.content.rels
  pub ends : AllByRecursion (λ (e : RelId × Rel). IsSome (node_at e.1.source state) × IsSome (node_at e.1.target state)) state.content.rels
  pub node_range : (1 ≤ state.next_node) × (state.next_node ≤ number_end)
  pub rel_range : (1 ≤ state.next_rel) × (state.next_rel ≤ number_end)
