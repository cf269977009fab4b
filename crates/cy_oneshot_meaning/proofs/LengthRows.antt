-- Worked rows: variable lengths.
use Rattle.std.proofs.Common.{◌≡◌, ℕ, [], ◌∷◌, refl, Some, None}
use Rattle.std.specs.Prelude.{codes, Ok}
use Rattle.cy_values.specs.declared.rows.Cell.{Cell}
use Rattle.cy_values.specs.declared.rows.Cell.TheVariants as cell
use Rattle.cy_trees.specs.declared.clauses.Direction.TheVariants.{Right, Either}
use Rattle.cy_trees.specs.declared.expressions.Comparator.TheVariants.{Equal}
use Rattle.cy_trees.specs.Trees.{comparison, no_links, link as and_link}
use Rattle.cy_scope_kinds.specs.Functions.{function_named}
use Rattle.cy_oneshot_meaning.proofs.ExampleGraphs.{A, empty, loop, both_ways, both_ways_of_an_a}
use Rattle.cy_oneshot_meaning.proofs.ExampleTrees.{answer, int, id_of, size_of, some_node, node_named, node_with_label, link, path, lengths, matching, matching_where, item, column, returning, number_cell, node_cell, rel_cell, a, b, n, r, s, x, y}

-- `MATCH (a)-[r*0..2]->(b) RETURN size(r) AS n`: the loop is used once at most
lengths_of_a_loop : answer loop (matching (path (node_named a) (link (Some r) Right [] (lengths 0 (Some 2))) (node_named b) ∷ []) ∷ returning (item (size_of r) n ∷ []) ∷ [])
    ≡ Ok ((number_cell 0 ∷ []) ∷ (number_cell 1 ∷ []) ∷ [])
unfolding function_named
lengths_of_a_loop = refl

-- `MATCH (a)-[*]->(b) RETURN a` where there is no node
unbounded_in_nothing : answer empty (matching (path (node_named a) (link None Right [] (lengths 1 None)) (node_named b) ∷ []) ∷ returning (column a ∷ []) ∷ []) ≡ Ok []
unbounded_in_nothing = refl

-- `MATCH (x)-[r*]->(y) RETURN id(x) AS x, id(y) AS y, size(r) AS n`
unbounded : answer both_ways (matching (path (node_named x) (link (Some r) Right [] (lengths 1 None)) (node_named y) ∷ [])
    ∷ returning (item (id_of x) x ∷ item (id_of y) y ∷ item (size_of r) n ∷ []) ∷ [])
    ≡ Ok ((number_cell 1 ∷ number_cell 1 ∷ number_cell 2 ∷ []) ∷ (number_cell 1 ∷ number_cell 2 ∷ number_cell 1 ∷ [])
    ∷ (number_cell 2 ∷ number_cell 1 ∷ number_cell 1 ∷ []) ∷ (number_cell 2 ∷ number_cell 2 ∷ number_cell 2 ∷ []) ∷ [])
unfolding function_named
unbounded = refl

-- a list of two relationships
abbrev rels : ℕ → ℕ → Cell
rels i j = cell.Rels (record { 0 = i } ∷ record { 0 = j } ∷ [])

-- `MATCH (x)-[r*2]-(y) WHERE id(x) = 1 RETURN r`: each list once, though it may be gone either way
either_way : answer both_ways (matching_where (path (node_named x) (link (Some r) Either [] (lengths 2 (Some 2))) (node_named y) ∷ [])
    (comparison (id_of x) (and_link Equal (int 1) no_links)) ∷ returning (column r ∷ []) ∷ [])
    ≡ Ok ((rels 1 2 ∷ []) ∷ (rels 2 1 ∷ []) ∷ [])
unfolding function_named
either_way = refl

-- `MATCH (a:A)-[r*0..2]->(b) RETURN id(a) AS a, id(b) AS b, size(r) AS n`
up_to_two : answer both_ways_of_an_a (matching (path (node_with_label a A) (link (Some r) Right [] (lengths 0 (Some 2))) (node_named b) ∷ [])
    ∷ returning (item (id_of a) a ∷ item (id_of b) b ∷ item (size_of r) n ∷ []) ∷ [])
    ≡ Ok ((number_cell 1 ∷ number_cell 1 ∷ number_cell 0 ∷ []) ∷ (number_cell 1 ∷ number_cell 1 ∷ number_cell 2 ∷ [])
    ∷ (number_cell 1 ∷ number_cell 2 ∷ number_cell 1 ∷ []) ∷ [])
unfolding function_named
up_to_two = refl

-- `MATCH ()-[r]->(), ()-[s*]->() RETURN r, s`: a relationship of the MATCH isn't in its lists either
not_in_lists : answer both_ways (matching (path some_node (link (Some r) Right [] None) some_node ∷ path some_node (link (Some s) Right [] (lengths 1 None)) some_node ∷ [])
    ∷ returning (column r ∷ column s ∷ []) ∷ [])
    ≡ Ok ((rel_cell 1 ∷ cell.Rels (record { 0 = 2 } ∷ []) ∷ []) ∷ (rel_cell 2 ∷ cell.Rels (record { 0 = 1 } ∷ []) ∷ []) ∷ [])
not_in_lists = refl

-- `MATCH (a)-[:Z*0]->(b) RETURN a, b`: a length of none asks for no type
none_of_a_type : answer both_ways (matching (path (node_named a) (link None Right (codes "Z" ∷ []) (lengths 0 (Some 0))) (node_named b) ∷ []) ∷ returning (column a ∷ column b ∷ []) ∷ [])
    ≡ Ok ((node_cell 1 ∷ node_cell 1 ∷ []) ∷ (node_cell 2 ∷ node_cell 2 ∷ []) ∷ [])
none_of_a_type = refl

-- `MATCH (a)-[r*2]->(b) RETURN a, r, b`: not the paths of one
exactly_two : answer both_ways (matching (path (node_named a) (link (Some r) Right [] (lengths 2 (Some 2))) (node_named b) ∷ []) ∷ returning (column a ∷ column r ∷ column b ∷ []) ∷ [])
    ≡ Ok ((node_cell 1 ∷ rels 1 2 ∷ node_cell 1 ∷ []) ∷ (node_cell 2 ∷ rels 2 1 ∷ node_cell 2 ∷ []) ∷ [])
exactly_two = refl
