-- Worked rows: OPTIONAL MATCH, on the graphs that three lines leave one after another.
use Rattle.std.proofs.Common.{◌≡◌, List, [], ◌∷◌, refl, true, Some, None}
use Rattle.std.specs.Prelude.{Ok}
use Rattle.cy_trees.specs.declared.clauses.Direction.TheVariants.{Right}
use Rattle.cy_trees.specs.declared.expressions.Comparator.TheVariants.{Equal}
use Rattle.cy_trees.specs.Trees.{comparison, no_links, link as and_link, Clause, «match»}
use Rattle.cy_scope_kinds.specs.Functions.{function_named}
use Rattle.cy_oneshot_meaning.proofs.ExampleGraphs.{A, B, T, empty, one_a, a_to_b, to_another_b}
use Rattle.cy_oneshot_meaning.proofs.ExampleTrees.{answer, int, id_of, some_node, node_named, node_with_label, link, single, path, matching, optional, column, returning, null_cell, node_cell, a, b, n, only}

-- `OPTIONAL MATCH (n) RETURN n` where there is no node
nothing_found : answer empty (optional (single (node_named n) ∷ []) ∷ returning (column n ∷ []) ∷ []) ≡ Ok ((null_cell ∷ []) ∷ [])
nothing_found = refl

-- `MATCH (a:A) OPTIONAL MATCH (a)-[:T]->(b:B) RETURN a, b`
abbrev partners : List Clause
partners =
    matching (single (node_with_label a A) ∷ [])
    ∷ optional (path (node_named a) (link None Right (T ∷ []) None) (node_with_label b B) ∷ [])
    ∷ returning (column a ∷ column b ∷ []) ∷ []

no_a : answer empty partners ≡ Ok []
no_a = refl

no_partner : answer one_a partners ≡ Ok ((node_cell 1 ∷ null_cell ∷ []) ∷ [])
no_partner = refl

a_partner : answer a_to_b partners ≡ Ok ((node_cell 1 ∷ node_cell 2 ∷ []) ∷ [])
a_partner = refl

another_partner : answer to_another_b partners ≡ Ok ((node_cell 1 ∷ node_cell 3 ∷ []) ∷ [])
another_partner = refl

-- `MATCH (a:A) OPTIONAL MATCH (a)-->(b) WHERE id(b) = 5 RETURN a, b`: WHERE is part of it
where_keeps_none : answer a_to_b (matching (single (node_with_label a A) ∷ [])
    ∷ «match» true (path (node_named a) (link None Right [] None) (node_named b) ∷ []) (only (comparison (id_of b) (and_link Equal (int 5) no_links)))
    ∷ returning (column a ∷ column b ∷ []) ∷ [])
    ≡ Ok ((node_cell 1 ∷ null_cell ∷ []) ∷ [])
unfolding function_named
where_keeps_none = refl

-- `OPTIONAL MATCH (n) MATCH (n)-->() RETURN n`, `OPTIONAL MATCH (n) OPTIONAL MATCH (n)-->(a) RETURN n, a`: a null node lets no pattern
-- fit
null_node : answer empty (optional (single (node_named n) ∷ []) ∷ matching (path (node_named n) (link None Right [] None) some_node ∷ []) ∷ returning (column n ∷ []) ∷ [])
    ≡ Ok []
null_node = refl

null_node_kept : answer empty (optional (single (node_named n) ∷ []) ∷ optional (path (node_named n) (link None Right [] None) (node_named a) ∷ []) ∷ returning (column n ∷ column a ∷ []) ∷ [])
    ≡ Ok ((null_cell ∷ null_cell ∷ []) ∷ [])
null_node_kept = refl
