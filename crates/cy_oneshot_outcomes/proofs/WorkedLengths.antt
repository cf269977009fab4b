-- Worked patterns: a loop, two parallel relationships, and a chain, with lengths and written out.
use Rattle.std.proofs.Common.{◌≡◌, ℕ, List, [], ◌∷◌, Option, None, Some, refl}
use Rattle.std.specs.Prelude.{codes}
use Rattle.cy_values.specs.declared.numbers.NodeId.{NodeId}
use Rattle.cy_values.specs.declared.numbers.RelId.{RelId}
use Rattle.cy_values.specs.declared.rows.Cell.{Cell}
use Rattle.cy_values.specs.declared.rows.Cell.TheVariants as cell
use Rattle.cy_trees.specs.declared.clauses.Direction.{Direction}
use Rattle.cy_trees.specs.declared.clauses.Direction.TheVariants.{Right, Either}
use Rattle.cy_trees.specs.declared.expressions.Variable.{Variable}
use Rattle.cy_graph.specs.Graph.{Content}
use Rattle.cy_graph.specs.declared.nodes.Node.{Node}
use Rattle.cy_graph.specs.declared.nodes.Rel.{Rel}
use Rattle.cy_oneshot_patterns.specs.Matching.{fitting}
use Rattle.cy_oneshot_outcomes.specs.Lengths.{LongStep, any_node, own_table, packed_table, packed_tables, pattern, rows_of, rows_written_out}

abbrev bare : ℕ → NodeId × Node
bare n = (record { 0 = n }, record { labels = []; props = [] })

abbrev from_to : ℕ → ℕ → ℕ → RelId × Rel
from_to r a b = (record { 0 = r }, record { source = record { 0 = a }; target = record { 0 = b }; kind = codes "T"; props = [] })

-- `CREATE (a)-[:T]->(a)`
abbrev loop : Content
loop = record { nodes = bare 1 ∷ []; rels = from_to 1 1 1 ∷ [] }

-- `CREATE (a)-[:T]->(b), (a)-[:T]->(b)`
abbrev parallel : Content
parallel = record { nodes = bare 1 ∷ bare 2 ∷ []; rels = from_to 1 1 2 ∷ from_to 2 1 2 ∷ [] }

-- `()-[*m..n]->()`, or with a variable
abbrev step : Option Variable → Direction → ℕ → Option ℕ → LongStep
step named direction least most = record {
  parts_before = [];
  start = any_node;
  steps_before = [];
  relationship = record { variable = named; direction = direction; types = []; length = None; properties = None };
  range = record { least = least; most = most };
  end = any_node;
  steps_after = [];
  parts_after = [];
}

abbrev n : ℕ → Cell
n i = cell.Node (record { 0 = i })

abbrev rels : List ℕ → Cell
rels [] = cell.Rels []
rels (i ∷ []) = cell.Rels (record { 0 = i } ∷ [])
rels (i ∷ j ∷ others) = cell.Rels (record { 0 = i } ∷ record { 0 = j } ∷ [])

-- `()-[*0..2]-()` on the loop: no relationship, or the loop once
loop_none_to_two : own_table loop (pattern (step None Either 0 (Some 2))) [] ≡ (n 1 ∷ rels [] ∷ n 1 ∷ []) ∷ (n 1 ∷ rels (1 ∷ []) ∷ n 1 ∷ []) ∷ []
loop_none_to_two = refl

loop_written_out : packed_tables loop (step None Either 0 (Some 2)) [] ≡ (n 1 ∷ rels [] ∷ n 1 ∷ []) ∷ (n 1 ∷ rels (1 ∷ []) ∷ n 1 ∷ []) ∷ []
loop_written_out = refl

-- `()-[*1..2]-()` on the two: one of them, or both there and back again
parallel_lengths : own_table parallel (pattern (step None Either 1 (Some 2))) [] ≡
    (n 1 ∷ rels (1 ∷ []) ∷ n 2 ∷ []) ∷ (n 1 ∷ rels (1 ∷ 2 ∷ []) ∷ n 1 ∷ []) ∷ (n 1 ∷ rels (2 ∷ []) ∷ n 2 ∷ []) ∷ (n 1 ∷ rels (2 ∷ 1 ∷ []) ∷ n 1 ∷ [])
    ∷ (n 2 ∷ rels (1 ∷ []) ∷ n 1 ∷ []) ∷ (n 2 ∷ rels (1 ∷ 2 ∷ []) ∷ n 2 ∷ []) ∷ (n 2 ∷ rels (2 ∷ []) ∷ n 1 ∷ []) ∷ (n 2 ∷ rels (2 ∷ 1 ∷ []) ∷ n 2 ∷ []) ∷ []
parallel_lengths = refl

parallel_of_one : packed_table parallel (step None Either 1 (Some 2)) [] 1 ≡
    (n 1 ∷ rels (1 ∷ []) ∷ n 2 ∷ []) ∷ (n 1 ∷ rels (2 ∷ []) ∷ n 2 ∷ []) ∷ (n 2 ∷ rels (1 ∷ []) ∷ n 1 ∷ []) ∷ (n 2 ∷ rels (2 ∷ []) ∷ n 1 ∷ []) ∷ []
parallel_of_one = refl

parallel_of_two : packed_table parallel (step None Either 1 (Some 2)) [] 2 ≡
    (n 1 ∷ rels (1 ∷ 2 ∷ []) ∷ n 1 ∷ []) ∷ (n 1 ∷ rels (2 ∷ 1 ∷ []) ∷ n 1 ∷ []) ∷ (n 2 ∷ rels (1 ∷ 2 ∷ []) ∷ n 2 ∷ []) ∷ (n 2 ∷ rels (2 ∷ 1 ∷ []) ∷ n 2 ∷ []) ∷ []
parallel_of_two = refl

-- `()-[*0]->()`: each node with itself
parallel_of_none : packed_tables parallel (step None Right 0 (Some 0)) [] ≡ (n 1 ∷ rels [] ∷ n 1 ∷ []) ∷ (n 2 ∷ rels [] ∷ n 2 ∷ []) ∷ []
parallel_of_none = refl

-- `()-[r*]->()`: the rows have the list
abbrev r : Variable
r = record { name = codes "r"; column = Some 0 }

parallel_named : rows_of (pattern (step (Some r) Right 1 None)) [] (packed_tables parallel (step (Some r) Right 1 None) []) ≡ (rels (1 ∷ []) ∷ []) ∷ (rels (2 ∷ []) ∷ []) ∷ []
parallel_named = refl

-- `(a)-[*0..2]->(a)` on the loop: one name is one node, with no relationship and with the loop
abbrev a : Variable
a = record { name = codes "a"; column = Some 0 }

abbrev circle : LongStep
circle = record (step None Right 0 (Some 2)) { start = record any_node { variable = Some a }; end = record any_node { variable = Some a } }

circle_rows : fitting loop (pattern circle) [] ≡ (n 1 ∷ []) ∷ (n 1 ∷ []) ∷ []
circle_rows = refl

circle_of_none : rows_written_out loop circle [] 0 ≡ (n 1 ∷ []) ∷ []
circle_of_none = refl

circle_of_one : rows_written_out loop circle [] 1 ≡ (n 1 ∷ []) ∷ []
circle_of_one = refl

circle_of_two : rows_written_out loop circle [] 2 ≡ []
circle_of_two = refl

-- `(a)-[r*1..2]->(b)` on the two: one row for each of them, with the nodes and the list
abbrev b : Variable
b = record { name = codes "b"; column = Some 2 }

abbrev second : Variable
second = record { name = codes "r"; column = Some 1 }

abbrev by_names : LongStep
by_names = record (step (Some second) Right 1 (Some 2)) { start = record any_node { variable = Some a }; end = record any_node { variable = Some b } }

parallel_rows : fitting parallel (pattern by_names) [] ≡ (n 1 ∷ rels (1 ∷ []) ∷ n 2 ∷ []) ∷ (n 1 ∷ rels (2 ∷ []) ∷ n 2 ∷ []) ∷ []
parallel_rows = refl

parallel_rows_packed : rows_of (pattern by_names) [] (packed_tables parallel by_names []) ≡ (n 1 ∷ rels (1 ∷ []) ∷ n 2 ∷ []) ∷ (n 1 ∷ rels (2 ∷ []) ∷ n 2 ∷ []) ∷ []
parallel_rows_packed = refl
