-- Worked rows: paths as conditions, and UNION.
use Rattle.std.proofs.Common.{◌≡◌, [], ◌∷◌, refl, true, false, Some, None}
use Rattle.std.specs.Prelude.{Ok}
use Rattle.cy_trees.specs.declared.clauses.Direction.TheVariants.{Right}
use Rattle.cy_trees.specs.Trees.{null, «with», Query, Statement}
use Rattle.cy_scope.specs.Resolved.{resolved_statement}
use Rattle.cy_oneshot_meaning.specs.Queries.{statement_rows}
use Rattle.cy_oneshot_meaning.proofs.ExampleGraphs.{A, T, empty, one_with_and_one_without}
use Rattle.cy_oneshot_meaning.proofs.ExampleTrees.{answer, int, some_node, node_named, node_with_label, link, path, single, matching_when, optional, projection, there, not_there, item, column, returning, node_cell, number_cell, null_cell, a, n, x}

-- `MATCH (a:A) WHERE (a)-[:T]->() RETURN a`
with_a_path : answer one_with_and_one_without (matching_when (single (node_with_label a A) ∷ [])
    (record { test = None; paths = there (path (node_named a) (link None Right (T ∷ []) None) some_node) ∷ [] }) ∷ returning (column a ∷ []) ∷ [])
    ≡ Ok ((node_cell 1 ∷ []) ∷ [])
with_a_path = refl

-- `MATCH (a:A) WHERE NOT (a)-[:T]->() RETURN a`
without_a_path : answer one_with_and_one_without (matching_when (single (node_with_label a A) ∷ [])
    (record { test = None; paths = not_there (path (node_named a) (link None Right (T ∷ []) None) some_node) ∷ [] }) ∷ returning (column a ∷ []) ∷ [])
    ≡ Ok ((node_cell 3 ∷ []) ∷ [])
without_a_path = refl

-- `OPTIONAL MATCH (n:A) WITH n WHERE NOT (n)-->() RETURN n` on no graph: a null node has no path
denied_of_null : answer empty (optional (single (node_with_label n A) ∷ [])
    ∷ «with» (projection (column n ∷ [])) (record { test = None; paths = not_there (path (node_named n) (link None Right [] None) some_node) ∷ [] }) ∷ returning (column n ∷ []) ∷ [])
    ≡ Ok ((null_cell ∷ []) ∷ [])
denied_of_null = refl

-- `RETURN 2 AS x UNION RETURN 1 AS x UNION RETURN 2 AS x`, and with UNION ALL
each_once : statement_rows empty (resolved_statement (record {
  queries = record { clauses = returning (item (int 2) x ∷ []) ∷ [] } ∷ record { clauses = returning (item (int 1) x ∷ []) ∷ [] } ∷ record { clauses = returning (item (int 2) x ∷ []) ∷ [] } ∷ [];
  all = false;
})) ≡ Ok ((number_cell 1 ∷ []) ∷ (number_cell 2 ∷ []) ∷ [])
each_once = refl

all_of_them : statement_rows empty (resolved_statement (record {
  queries = record { clauses = returning (item (int 1) x ∷ []) ∷ [] } ∷ record { clauses = returning (item (int 1) x ∷ []) ∷ [] } ∷ record { clauses = returning (item null x ∷ []) ∷ [] } ∷ [];
  all = true;
})) ≡ Ok ((number_cell 1 ∷ []) ∷ (number_cell 1 ∷ []) ∷ (null_cell ∷ []) ∷ [])
all_of_them = refl
