-- The graphs of the worked rows, each by the line that makes it.
use Rattle.std.proofs.Common.{ℕ, List, [], ◌∷◌}
use Rattle.std.specs.Prelude.{⊤, codes, pos}
use Rattle.cy_values.specs.declared.numbers.NodeId.{NodeId}
use Rattle.cy_values.specs.declared.numbers.RelId.{RelId}
use Rattle.cy_values.specs.declared.scalars.Value.{Value}
use Rattle.cy_values.specs.declared.scalars.Value.TheVariants as value
use Rattle.cy_trees.specs.Trees.{Name}
use Rattle.cy_graph.specs.Graph.{Content}
use Rattle.cy_graph.specs.declared.nodes.Node.{Node}
use Rattle.cy_graph.specs.declared.nodes.Rel.{Rel}

abbrev pub number : ℕ → NodeId
number n = record { 0 = n }

-- a relationship of a type, from a node to another
abbrev pub relationship : ℕ → ℕ → Name → ℕ → RelId × Rel
relationship r source kind target = (record { 0 = r }, record { source = number source; target = number target; kind = kind; props = [] })

abbrev pub node : ℕ → List (Name × ⊤) → List (Name × Value) → NodeId × Node
node n labels props = (number n, record { labels = labels; props = props })

abbrev pub bare : ℕ → NodeId × Node
bare n = node n [] []

abbrev pub labelled : ℕ → Name → NodeId × Node
labelled n label = node n ((label, tt) ∷ []) []

abbrev pub T : Name
T = codes "T"

abbrev pub A : Name
A = codes "A"

abbrev pub B : Name
B = codes "B"

-- nothing
abbrev pub empty : Content
empty = record { nodes = []; rels = [] }

-- `CREATE (a)-[:T]->(a)`
abbrev pub loop : Content
loop = record { nodes = bare 1 ∷ []; rels = relationship 1 1 T 1 ∷ [] }

-- `CREATE (a)-[:T]->(b)-[:T]->(a)`
abbrev pub both_ways : Content
both_ways = record { nodes = bare 1 ∷ bare 2 ∷ []; rels = relationship 1 1 T 2 ∷ relationship 2 2 T 1 ∷ [] }

-- `CREATE (a:A)-[:T]->(b)-[:T]->(a)`
abbrev pub both_ways_of_an_a : Content
both_ways_of_an_a = record { nodes = labelled 1 A ∷ bare 2 ∷ []; rels = relationship 1 1 T 2 ∷ relationship 2 2 T 1 ∷ [] }

-- `CREATE (a:A)-[:T]->(b:B)<-[:U]-(c), (b)-[:T]->(a)`
abbrev pub three : Content
three = record {
  nodes = labelled 1 A ∷ labelled 2 B ∷ bare 3 ∷ [];
  rels = relationship 1 1 T 2 ∷ relationship 2 3 (codes "U") 2 ∷ relationship 3 2 T 1 ∷ [];
}

-- `CREATE (:A {k: 1}), (:A {k: 1}), (:A {k: '1'})` after `CREATE (a)-[:T]->(b)-[:T]->(a)`
abbrev pub with_k : ℕ → Value → NodeId × Node
with_k n k = node n ((A, tt) ∷ []) ((codes "k", k) ∷ [])

abbrev pub keyed : Content
keyed = record {
  nodes = bare 1 ∷ bare 2 ∷ with_k 3 (value.Int (pos 1)) ∷ with_k 4 (value.Int (pos 1)) ∷ with_k 5 (value.Text (codes "1")) ∷ [];
  rels = relationship 1 1 T 2 ∷ relationship 2 2 T 1 ∷ [];
}

-- `CREATE ({x: 1}), ()`
abbrev pub one_with_x : Content
one_with_x = record { nodes = node 1 [] ((codes "x", value.Int (pos 1)) ∷ []) ∷ bare 2 ∷ []; rels = [] }

-- `CREATE (:A {x: 5}), (:A {x: 5})`
abbrev pub with_five : ℕ → NodeId × Node
with_five n = node n ((A, tt) ∷ []) ((codes "x", value.Int (pos 5)) ∷ [])

abbrev pub twice_five : Content
twice_five = record { nodes = with_five 1 ∷ with_five 2 ∷ []; rels = [] }

-- `CREATE (:A)`
abbrev pub one_a : Content
one_a = record { nodes = labelled 1 A ∷ []; rels = [] }

-- `MATCH (a:A) CREATE (a)-[:T]->(:B)` after it
abbrev pub a_to_b : Content
a_to_b = record { nodes = labelled 1 A ∷ labelled 2 B ∷ []; rels = relationship 1 1 T 2 ∷ [] }

-- and `MATCH (a:A)-[:T]->(b:B) REMOVE b:B CREATE (a)-[:T]->(:B)` after that
abbrev pub to_another_b : Content
to_another_b = record {
  nodes = labelled 1 A ∷ bare 2 ∷ labelled 3 B ∷ [];
  rels = relationship 1 1 T 2 ∷ relationship 2 1 T 3 ∷ [];
}

-- `CREATE ()-[:T]->()` twice
abbrev pub two_apart : Content
two_apart = record { nodes = bare 1 ∷ bare 2 ∷ bare 3 ∷ bare 4 ∷ []; rels = relationship 1 1 T 2 ∷ relationship 2 3 T 4 ∷ [] }

-- `CREATE (a:A)-[:T]->(:B), (:A)`
abbrev pub one_with_and_one_without : Content
one_with_and_one_without = record { nodes = labelled 1 A ∷ labelled 2 B ∷ labelled 3 A ∷ []; rels = relationship 1 1 T 2 ∷ [] }
