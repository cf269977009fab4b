-- Worked rows: DELETE, and statements whose clauses see what those before them did.
use Rattle.std.proofs.Common.{◌≡◌, true, false, [], ◌∷◌, refl, Some, None}
use Rattle.std.specs.Prelude.{codes, Ok, Err}
use Rattle.cy_trees.specs.declared.clauses.Direction.TheVariants.{Right}
use Rattle.cy_trees.specs.declared.expressions.BinaryOperator.TheVariants.{Divide}
use Rattle.cy_trees.specs.Trees.{binary, Clause, create, delete, «with»}
use Rattle.cy_graph.specs.Graph.{empty_state}
use Rattle.cy_expr.specs.declared.faults.EvalFault.TheVariants.{DivisionByZero}
use Rattle.cy_oneshot_meaning.proofs.ExampleGraphs.{A, B, bare, labelled, empty, loop, one_a, a_to_b, to_another_b}
use Rattle.cy_oneshot_meaning.proofs.ExampleTrees.{int, named, some_node, node_named, node_with_label, link, single, path, matching, no_where, optional, column, projection, returning, node_cell, a, b, c, n, r, x}
use Rattle.cy_updates_meaning.specs.declared.faults.UpdateFault.TheVariants.{Eval, StillConnected}
use Rattle.cy_updates_meaning.proofs.ExampleTrees.{whole, outcome_on, counted, leaves, entry, new_node}

abbrev match_a : Clause
match_a = matching (single (node_with_label n A) ∷ [])

abbrev delete_n : Clause
delete_n = delete false (named n ∷ [])

abbrev detach_delete_n : Clause
detach_delete_n = delete true (named n ∷ [])

-- after `CREATE (:A)-[:T]->(:B)`: `MATCH (n:A) DELETE n`, and `MATCH (n:A) CREATE (:C) DELETE n`
still_connected : outcome_on (whole a_to_b) (match_a ∷ delete_n ∷ []) ≡ Err (StillConnected (record { 0 = 1 }))
still_connected = refl

after_a_create : outcome_on (whole a_to_b) (match_a ∷ create (single (new_node (codes "C" ∷ []) []) ∷ []) ∷ delete_n ∷ []) ≡ Err (StillConnected (record { 0 = 1 }))
after_a_create = refl

-- `CREATE (c) RETURN c`
not_used_up : outcome_on (whole a_to_b) (create (single (node_named c) ∷ []) ∷ returning (column c ∷ []) ∷ [])
    ≡ Ok (record {
      graph = whole (record { nodes = labelled 1 A ∷ labelled 2 B ∷ bare 3 ∷ []; rels = a_to_b.rels });
      counts = counted 1 0 0 0;
      columns = c ∷ [];
      rows = (node_cell 3 ∷ []) ∷ [];
    })
not_used_up = refl

-- `MATCH (n:A) DETACH DELETE n`: the relationships at it go too, and no number is used again
detached : outcome_on (whole a_to_b) (match_a ∷ detach_delete_n ∷ [])
    ≡ Ok (leaves (record { content = record { nodes = labelled 2 B ∷ []; rels = [] }; next_node = 3; next_rel = 2 }) (counted 0 1 0 1))
detached = refl

-- and with two relationships at it
detached_twice : outcome_on (whole to_another_b) (match_a ∷ detach_delete_n ∷ [])
    ≡ Ok (leaves (record { content = record { nodes = bare 2 ∷ labelled 3 B ∷ []; rels = [] }; next_node = 4; next_rel = 3 }) (counted 0 1 0 2))
detached_twice = refl

-- `MATCH (n:A)-[r]->(b:B) DELETE n, r`: relationship 2 goes, and 1 remains
one_remains : outcome_on (whole to_another_b) (matching (path (node_with_label n A) (link (Some r) Right [] None) (node_with_label b B) ∷ []) ∷ delete false (named n ∷ named r ∷ []) ∷ [])
    ≡ Err (StillConnected (record { 0 = 1 }))
one_remains = refl

-- a node with a loop: `MATCH (n) DELETE n`, and `MATCH (n)-[r]->() DELETE n, r`, where the node comes first and all the same goes
loop_left : outcome_on (whole loop) (matching (single (node_named n) ∷ []) ∷ delete_n ∷ []) ≡ Err (StillConnected (record { 0 = 1 }))
loop_left = refl

loop_goes : outcome_on (whole loop) (matching (path (node_named n) (link (Some r) Right [] None) some_node ∷ []) ∷ delete false (named n ∷ named r ∷ []) ∷ [])
    ≡ Ok (leaves (empty_state 2 2) (counted 0 1 0 1))
loop_goes = refl

-- `CREATE (n:A) DELETE n`: what is made and removed counts in both
made_and_gone : outcome_on (whole empty) (create (single (node_with_label n A) ∷ []) ∷ delete_n ∷ []) ≡ Ok (leaves (empty_state 2 1) (counted 1 1 0 0))
made_and_gone = refl

-- `OPTIONAL MATCH (n:B) DELETE n` where no node has the label: null names nothing
null_names_nothing : outcome_on (whole one_a) (optional (single (node_with_label n B) ∷ []) ∷ delete_n ∷ []) ≡ Ok (leaves (whole one_a) (counted 0 0 0 0))
null_names_nothing = refl

-- `CREATE (a:A) WITH a MATCH (n:A) RETURN n`: MATCH reads the graph as CREATE left it
reads_what_was_made : outcome_on (whole one_a) (create (single (node_with_label a A) ∷ []) ∷ «with» (projection (column a ∷ [])) no_where ∷ match_a ∷ returning (column n ∷ []) ∷ [])
    ≡ Ok (record {
      graph = whole (record { nodes = labelled 1 A ∷ labelled 2 A ∷ []; rels = [] });
      counts = counted 1 0 0 0;
      columns = n ∷ [];
      rows = (node_cell 1 ∷ []) ∷ (node_cell 2 ∷ []) ∷ [];
    })
reads_what_was_made = refl

-- `MATCH (n:A) CREATE ({x: 1 / 0}) DELETE n`: the first clause that faults decides
first_fault : outcome_on (whole a_to_b) (match_a ∷ create (single (new_node [] (entry x (binary Divide (int 1) (int 0)) ∷ [])) ∷ []) ∷ delete_n ∷ []) ≡ Err (Eval DivisionByZero)
first_fault = refl
