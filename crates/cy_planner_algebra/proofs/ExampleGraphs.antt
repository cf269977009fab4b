-- The graph of the worked plans.
use Rattle.std.proofs.Common.{ℕ, [], ◌∷◌}
use Rattle.std.specs.Prelude.{codes, pos}
use Rattle.cy_values.specs.declared.numbers.NodeId.{NodeId}
use Rattle.cy_values.specs.declared.numbers.RelId.{RelId}
use Rattle.cy_values.specs.declared.scalars.Value.TheVariants as value
use Rattle.cy_values.specs.declared.rows.Cell.{Cell}
use Rattle.cy_values.specs.declared.rows.Cell.TheVariants as cell
use Rattle.cy_trees.specs.Trees.{Name}
use Rattle.cy_graph.specs.Graph.{Content}
use Rattle.cy_graph.specs.declared.nodes.Node.{Node}
use Rattle.cy_graph.specs.declared.nodes.Rel.{Rel}

abbrev pub number : ℕ → NodeId
number n = record { 0 = n }

abbrev pub T : Name
T = codes "T"

abbrev pub k : Name
k = codes "k"

-- a relationship from a node to another
abbrev pub relationship : ℕ → ℕ → ℕ → RelId × Rel
relationship r source target = (record { 0 = r }, record { source = number source; target = number target; kind = T; props = [] })

-- a node, with or without a property
abbrev pub with_k : ℕ → ℕ → NodeId × Node
with_k n v = (number n, record { labels = []; props = (k, value.Int (pos v)) ∷ [] })

abbrev pub bare : ℕ → NodeId × Node
bare n = (number n, record { labels = []; props = [] })

-- `CREATE (a {k: 7})-[:T]->(a), (a)-[:T]->(b {k: 7}), (a)-[:T]->(b), ()`: a loop, two parallel relationships, and a node without `k`
abbrev pub graph : Content
graph = record { nodes = with_k 1 7 ∷ with_k 2 7 ∷ bare 3 ∷ []; rels = relationship 1 1 1 ∷ relationship 2 1 2 ∷ relationship 3 1 2 ∷ [] }

-- cells
abbrev pub n : ℕ → Cell
n id = cell.Node (record { 0 = id })

abbrev pub r : ℕ → Cell
r id = cell.Rel (record { 0 = id })

abbrev pub int : ℕ → Cell
int v = cell.Value (value.Int (pos v))

abbrev pub t : Cell
t = cell.Value (value.Text T)

abbrev pub no : Cell
no = cell.Value value.Null
