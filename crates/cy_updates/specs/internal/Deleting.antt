-- The set that DELETE removes, as two lists of numbers.
use Rattle.std.specs.Prelude.{◌≡◌, ℕ, ◌+◌, ◌==◌, Bool, not, ◌||◌, List, [], ◌∷◌, ◌++◌, filter, flat_map, length, nat_le, Option, None, Some, if◌then◌else◌}
use Rattle.std.specs.List.{AllByRecursion, list_any}
use Rattle.cy_values.specs.declared.numbers.NodeId.{NodeId}
use Rattle.cy_values.specs.declared.numbers.RelId.{RelId}
use Rattle.cy_values.specs.declared.numbers.Entity.{Entity}
use Rattle.cy_values.specs.declared.numbers.Entity.TheVariants as entity
use Rattle.cy_graph.specs.declared.nodes.Node.{Node}
use Rattle.cy_graph.specs.declared.nodes.Rel.{Rel}
use Rattle.cy_graph.specs.Graph.{State, with_nodes, with_rels}
use Rattle.cy_graph.specs.internal.Ends.{rels_from, rels_into}

-- the nodes, and the relationships, among entities
abbrev pub nodes_among : List Entity → List NodeId
nodes_among [] = []
nodes_among (entity.Node id ∷ set) = id ∷ nodes_among set
nodes_among (entity.Rel id ∷ set) = nodes_among set

abbrev pub rels_among : List Entity → List RelId
rels_among [] = []
rels_among (entity.Node id ∷ set) = rels_among set
rels_among (entity.Rel id ∷ set) = id ∷ rels_among set

-- a number is one of these
abbrev pub is_node_among : List NodeId → NodeId → Bool
is_node_among ids id = list_any (λ (other : NodeId). id.0 == other.0) ids

abbrev pub is_rel_among : List RelId → RelId → Bool
is_rel_among ids id = list_any (λ (other : RelId). id.0 == other.0) ids

-- these nodes are those, however often each stands among them
abbrev pub AreSameNodes : List NodeId → List NodeId → Type 0
AreSameNodes these those = (id : NodeId) → is_node_among these id ≡ is_node_among those id

-- a relationship lies at one of the nodes
abbrev pub lies_among : List NodeId → RelId × Rel → Bool
lies_among ids e = is_node_among ids e.1.source || is_node_among ids e.1.target

-- the graph without these relationships, and without these nodes
abbrev pub without_rels : List RelId → State → State
without_rels ids graph = with_rels (filter (λ (e : RelId × Rel). not (is_rel_among ids e.0)) graph.content.rels) graph

abbrev pub without_nodes : List NodeId → State → State
without_nodes ids graph = with_nodes (filter (λ (e : NodeId × Node). not (is_node_among ids e.0)) graph.content.nodes) graph

-- so many relationships went, and so many nodes
abbrev pub AreRelsGone : ℕ → State → State → Type 0
AreRelsGone gone before after = gone + length after.content.rels ≡ length before.content.rels

abbrev pub AreNodesGone : ℕ → State → State → Type 0
AreNodesGone gone before after = gone + length after.content.nodes ≡ length before.content.nodes

-- the relationships at these nodes: those that lead from one, and those that lead to it
abbrev pub rels_at : List NodeId → List (RelId × Rel) → List RelId
rels_at ids rels = flat_map (λ id. rels_from id rels ++ rels_into id rels) ids

-- of these relationships those that pass a test are among the numbers
abbrev pub AreAmong : (RelId × Rel → Bool) → List RelId → List (RelId × Rel) → Type 0
AreAmong test ids rels = AllByRecursion (λ (e : RelId × Rel). is_rel_among ids e.0 ≡ test e) rels

-- the lesser of two numbers, where they are there
abbrev pub lesser_of : Option RelId → Option RelId → Option RelId
lesser_of None other = other
lesser_of (Some one) None = Some one
lesser_of (Some one) (Some other) = Some (if nat_le one.0 other.0 then one else other)
