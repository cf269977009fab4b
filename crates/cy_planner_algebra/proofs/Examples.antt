-- Plans computed by hand, on a graph of a loop, two parallel relationships and a node without the property `k`.
use Rattle.std.proofs.Common.{◌≡◌, ℕ, [], ◌∷◌, refl}
use Rattle.std.specs.Prelude.{Some, codes}
use Rattle.cy_values.specs.declared.rows.Cell.TheVariants as cell
use Rattle.cy_trees.specs.declared.expressions.Comparator.TheVariants.{NotEqual}
use Rattle.cy_trees.specs.Trees.{Expression, variable, comparison, link, no_links}
use Rattle.cy_planner_algebra.specs.declared.operators.Attribute.TheVariants.{Property}
use Rattle.cy_planner_algebra.specs.declared.operators.KeyColumns.{KeyColumns}
use Rattle.cy_planner_algebra.specs.declared.operators.Keeping.TheVariants.{Matched, Unmatched}
use Rattle.cy_planner_algebra.specs.declared.operators.Orientation.TheVariants.{Directed, Either}
use Rattle.cy_planner_algebra.specs.Plans.{Plan, nodes, rels, join, outer, semi, lookup, all_different, project, distinct, computed, gathered}
use Rattle.cy_planner_algebra.specs.Meaning.{rows_of}
use Rattle.cy_planner_algebra.proofs.ExampleGraphs.{graph, T, k, n, r, t, no}

abbrev key : ℕ → ℕ → KeyColumns
key left right = record { left = left; right = right }

abbrev column : ℕ → Expression
column c = variable (record { name = []; column = Some c })

-- `(a)-[r]-(b)`: the loop once, the others both ways
either_way : rows_of graph (rels [] Either)
    ≡ (r 1 ∷ n 1 ∷ n 1 ∷ t ∷ []) ∷ (r 2 ∷ n 1 ∷ n 2 ∷ t ∷ []) ∷ (r 2 ∷ n 2 ∷ n 1 ∷ t ∷ []) ∷ (r 3 ∷ n 1 ∷ n 2 ∷ t ∷ []) ∷ (r 3 ∷ n 2 ∷ n 1 ∷ t ∷ []) ∷ []
either_way = refl

-- a type that no relationship has
another_type : rows_of graph (rels (codes "U" ∷ []) Directed) ≡ []
another_type = refl

-- nodes with the same `k`: null is not the same as null
abbrev with_property : Plan
with_property = lookup nodes 0 (Property k)

same_k : rows_of graph (project (join with_property with_property (key 1 1 ∷ [])) (computed (column 0) ∷ computed (column 2) ∷ []))
    ≡ (n 1 ∷ n 1 ∷ []) ∷ (n 1 ∷ n 2 ∷ []) ∷ (n 2 ∷ n 1 ∷ []) ∷ (n 2 ∷ n 2 ∷ []) ∷ []
same_k = refl

-- `(a)-[r]->(b), (a)-[s]->(c)` with r and s different, once for each pair of ends, and the lists of the two
abbrev from_one : Plan
from_one = all_different (join (rels (T ∷ []) Directed) (rels (T ∷ []) Directed) (key 1 1 ∷ [])) (0 ∷ 4 ∷ [])

two_of_three : rows_of graph (project from_one (gathered (0 ∷ 4 ∷ []) ∷ []))
    ≡ (cell.Rels (record { 0 = 1 } ∷ record { 0 = 2 } ∷ []) ∷ []) ∷ (cell.Rels (record { 0 = 1 } ∷ record { 0 = 3 } ∷ []) ∷ [])
    ∷ (cell.Rels (record { 0 = 2 } ∷ record { 0 = 1 } ∷ []) ∷ []) ∷ (cell.Rels (record { 0 = 2 } ∷ record { 0 = 3 } ∷ []) ∷ [])
    ∷ (cell.Rels (record { 0 = 3 } ∷ record { 0 = 1 } ∷ []) ∷ []) ∷ (cell.Rels (record { 0 = 3 } ∷ record { 0 = 2 } ∷ []) ∷ []) ∷ []
two_of_three = refl

each_pair_of_ends : rows_of graph (distinct (project from_one (computed (column 2) ∷ computed (column 6) ∷ [])))
    ≡ (n 1 ∷ n 2 ∷ []) ∷ (n 2 ∷ n 1 ∷ []) ∷ (n 2 ∷ n 2 ∷ []) ∷ []
each_pair_of_ends = refl

-- `MATCH (a) OPTIONAL MATCH (a)-[r]->(b) WHERE a <> b`: a node without one stands with nulls
to_another : rows_of graph (project (outer nodes (rels [] Directed) (key 0 1 ∷ []) (comparison (column 0) (link NotEqual (column 3) no_links))) (computed (column 0) ∷ computed (column 1) ∷ []))
    ≡ (n 1 ∷ r 2 ∷ []) ∷ (n 1 ∷ r 3 ∷ []) ∷ (n 2 ∷ no ∷ []) ∷ (n 3 ∷ no ∷ []) ∷ []
to_another = refl

-- `MATCH (a) WHERE (a)-[]->()`, and `WHERE NOT (a)-[]->()`: a node once, however many relationships leave it
with_a_target : rows_of graph (semi nodes (rels [] Directed) (key 0 1 ∷ []) Matched) ≡ (n 1 ∷ []) ∷ []
with_a_target = refl

without_a_target : rows_of graph (semi nodes (rels [] Directed) (key 0 1 ∷ []) Unmatched) ≡ (n 2 ∷ []) ∷ (n 3 ∷ []) ∷ []
without_a_target = refl

-- a null key has no partner
null_key : rows_of graph (project (semi with_property with_property (key 1 1 ∷ []) Unmatched) (computed (column 0) ∷ [])) ≡ (n 3 ∷ []) ∷ []
null_key = refl
