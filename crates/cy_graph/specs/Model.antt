-- The graph that a series of nodes and a series of relationships stand for (own).
use Rattle.std.specs.Prelude.{ℕ, List, [], ◌∷◌, Option, None, Some}
use Rattle.std.specs.Option.{option_map}
use Rattle.cy_values.specs.declared.numbers.NodeId.{NodeId}
use Rattle.cy_values.specs.declared.numbers.RelId.{RelId}
use Rattle.cy_graph.specs.declared.nodes.Node.{Node}
use Rattle.cy_graph.specs.declared.nodes.Rel.{Rel}
use Rattle.cy_graph.specs.Graph.{State, Versions}

-- values under their numbers, and the next number
pub record Numbered (V : Type 0) : Type 0 where
  pub entries : List (ℕ × V)
  pub next : ℕ

-- a series as it is and, while a change is open, as it was when the change began
pub record SeriesVersions (V : Type 0) : Type 0 where
  pub now : Numbered V
  pub was : Option (Numbered V)

-- the nodes under the numbers of nodes
abbrev pub nodes_of : List (ℕ × Node) → List (NodeId × Node)
nodes_of [] = []
nodes_of (e ∷ es) = (record { 0 = e.0 }, e.1) ∷ nodes_of es

-- the relationships under the numbers of relationships
abbrev pub rels_of : List (ℕ × Rel) → List (RelId × Rel)
rels_of [] = []
rels_of (e ∷ es) = (record { 0 = e.0 }, e.1) ∷ rels_of es

-- the graph of these nodes and relationships
abbrev pub state_of : Numbered Node → Numbered Rel → State
state_of nodes rels = record { content = record { nodes = nodes_of nodes.entries; rels = rels_of rels.entries }; next_node = nodes.next; next_rel = rels.next }

-- the graph before the change, where both series have one open
abbrev pub before_of : Option (Numbered Node) → Option (Numbered Rel) → Option State
before_of None rels = None
before_of (Some nodes) rels = option_map (state_of nodes) rels

abbrev pub versions_of : SeriesVersions Node → SeriesVersions Rel → Versions
versions_of nodes rels = record { now = state_of nodes.now rels.now; was = before_of nodes.was rels.was }
