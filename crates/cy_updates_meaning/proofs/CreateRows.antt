-- Worked rows: CREATE.
use Rattle.std.proofs.Common.{◌≡◌, [], ◌∷◌, refl, Some, None}
use Rattle.std.specs.Prelude.{codes, pos, Ok, Err}
use Rattle.cy_values.specs.declared.scalars.Value.TheVariants as value
use Rattle.cy_trees.specs.declared.clauses.Direction.TheVariants.{Right, Left}
use Rattle.cy_trees.specs.declared.expressions.BinaryOperator.TheVariants.{Divide}
use Rattle.cy_trees.specs.Trees.{Expression, null, binary, create, more}
use Rattle.cy_graph.specs.Graph.{State, empty_state}
use Rattle.cy_expr.specs.declared.faults.EvalFault.TheVariants.{DivisionByZero}
use Rattle.cy_oneshot_meaning.proofs.ExampleGraphs.{A, B, T, bare, node, relationship, empty, loop, three, one_a, a_to_b}
use Rattle.cy_oneshot_meaning.proofs.ExampleTrees.{int, two, var, some_node, node_named, node_with_label, node_with_entry, link, single, path, matching, optional, unwinding, column, returning, node_cell, rel_cell, number_cell, a, b, c, n, r, x, y}
use Rattle.cy_updates_meaning.specs.declared.faults.UpdateFault.TheVariants.{Eval, NullEndpoint, NotStorable, Full}
use Rattle.cy_updates_meaning.proofs.ExampleTrees.{whole, outcome_on, counted, leaves, entry, new_node, link_with, list_with_null}

-- `CREATE (a)-[:T]->(a)`
a_loop : outcome_on (whole empty) (create (path (node_named a) (link None Right (T ∷ []) None) (node_named a) ∷ []) ∷ [])
    ≡ Ok (leaves (whole loop) (counted 1 0 1 0))
a_loop = refl

-- `CREATE (a:A)-[:T]->(b:B)<-[:U]-(c), (b)-[:T]->(a)`
two_paths : outcome_on (whole empty) (create (
    record {
      start = node_with_label a A;
      steps = record { relationship = link None Right (T ∷ []) None; node = node_with_label b B }
          ∷ record { relationship = link None Left (codes "U" ∷ []) None; node = node_named c } ∷ [];
    }
    ∷ path (node_named b) (link None Right (T ∷ []) None) (node_named a) ∷ []) ∷ [])
    ≡ Ok (leaves (whole three) (counted 3 0 3 0))
two_paths = refl

-- `MATCH (a:A) CREATE (a)-[:T]->(:B)`: a bound variable is the node that it names
from_a_match : outcome_on (whole one_a) (matching (single (node_with_label a A) ∷ []) ∷ create (path (node_named a) (link None Right (T ∷ []) None) (new_node (B ∷ []) []) ∷ []) ∷ [])
    ≡ Ok (leaves (whole a_to_b) (counted 1 0 1 0))
from_a_match = refl

-- `UNWIND [2, 1, 1] AS x CREATE (n {x: x}) RETURN x, n`: rows go in canonical order, each as often as it counts
rows_in_order : outcome_on (whole empty) (unwinding (more (int 2) (two (int 1) (int 1))) x ∷ create (single (node_with_entry n [] x (var x)) ∷ []) ∷ returning (column x ∷ column n ∷ []) ∷ [])
    ≡ Ok (record {
      graph = whole (record {
        nodes = node 1 [] ((x, value.Int (pos 1)) ∷ []) ∷ node 2 [] ((x, value.Int (pos 1)) ∷ []) ∷ node 3 [] ((x, value.Int (pos 2)) ∷ []) ∷ [];
        rels = [];
      });
      counts = counted 3 0 0 0;
      columns = x ∷ n ∷ [];
      rows = (number_cell 1 ∷ node_cell 1 ∷ []) ∷ (number_cell 1 ∷ node_cell 2 ∷ []) ∷ (number_cell 2 ∷ node_cell 3 ∷ []) ∷ [];
    })
rows_in_order = refl

-- `CREATE (a)-[r:T]->(b) RETURN a, r, b`: columns stand in the order of the text
columns_in_order : outcome_on (whole empty) (create (path (node_named a) (link (Some r) Right (T ∷ []) None) (node_named b) ∷ []) ∷ returning (column a ∷ column r ∷ column b ∷ []) ∷ [])
    ≡ Ok (record {
      graph = whole (record { nodes = bare 1 ∷ bare 2 ∷ []; rels = relationship 1 1 T 2 ∷ [] });
      counts = counted 2 0 1 0;
      columns = a ∷ r ∷ b ∷ [];
      rows = (node_cell 1 ∷ rel_cell 1 ∷ node_cell 2 ∷ []) ∷ [];
    })
columns_in_order = refl

-- `CREATE ({x: 1, y: null, x: 2})`: of two entries with one key the later counts, and null isn't stored
later_entry : outcome_on (whole empty) (create (single (new_node [] (entry x (int 1) ∷ entry y null ∷ entry x (int 2) ∷ [])) ∷ []) ∷ [])
    ≡ Ok (leaves (whole (record { nodes = node 1 [] ((x, value.Int (pos 2)) ∷ []) ∷ []; rels = [] })) (counted 1 0 0 0))
later_entry = refl

-- `CREATE ({x: [null], x: 2})`: the earlier one faults all the same
earlier_entry : outcome_on (whole empty) (create (single (new_node [] (entry x list_with_null ∷ entry x (int 2) ∷ [])) ∷ []) ∷ []) ≡ Err NotStorable
earlier_entry = refl

abbrev division : Expression
division = binary Divide (int 1) (int 0)

-- `CREATE ()-[:T {x: [null]}]->({x: 1 / 0})`: places answer in the order of the text
first_place : outcome_on (whole empty) (create (path some_node (link_with Right T (entry x list_with_null ∷ [])) (new_node [] (entry x division ∷ [])) ∷ []) ∷ [])
    ≡ Err NotStorable
first_place = refl

-- `OPTIONAL MATCH (n:A) CREATE (n)-[:T]->()`
null_end : outcome_on (whole empty) (optional (single (node_with_label n A) ∷ []) ∷ create (path (node_named n) (link None Right (T ∷ []) None) some_node ∷ []) ∷ [])
    ≡ Err NullEndpoint
null_end = refl

-- `OPTIONAL MATCH (n:A) CREATE ()-[:T {x: 1 / 0}]->(n)`: the map of a relationship comes before its ends
map_before_ends : outcome_on (whole empty) (optional (single (node_with_label n A) ∷ []) ∷ create (path some_node (link_with Right T (entry x division ∷ [])) (node_named n) ∷ []) ∷ [])
    ≡ Err (Eval DivisionByZero)
map_before_ends = refl

-- `CREATE (), ()`, and then `CREATE ()`, where one number of nodes is left
abbrev one_left : State
one_left = empty_state 1099511627776 1

too_many : outcome_on one_left (create (single some_node ∷ single some_node ∷ []) ∷ []) ≡ Err Full
too_many = refl

last_number : outcome_on one_left (create (single some_node ∷ []) ∷ [])
    ≡ Ok (leaves (record { content = record { nodes = bare 1099511627776 ∷ []; rels = [] }; next_node = 1099511627777; next_rel = 1 }) (counted 1 0 0 0))
last_number = refl
