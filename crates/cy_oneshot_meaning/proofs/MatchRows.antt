-- Worked rows: MATCH, its directions, types, labels and property maps, and that one MATCH uses no relationship twice.
use Rattle.std.proofs.Common.{◌≡◌, ℕ, [], ◌∷◌, refl, Some, None}
use Rattle.std.specs.Prelude.{codes, Ok, Err}
use Rattle.cy_trees.specs.declared.clauses.Direction.TheVariants.{Right, Left, Either}
use Rattle.cy_trees.specs.declared.expressions.BinaryOperator.TheVariants.{And, Divide}
use Rattle.cy_trees.specs.declared.expressions.Comparator.TheVariants.{Equal}
use Rattle.cy_trees.specs.Trees.{Name, Expression, null, binary, comparison, no_links, link as and_link, Path}
use Rattle.cy_scope_kinds.specs.Functions.{function_named}
use Rattle.cy_expr.specs.declared.faults.EvalFault.TheVariants.{DivisionByZero}
use Rattle.cy_oneshot_meaning.proofs.ExampleGraphs.{A, B, T, empty, loop, both_ways, three, keyed, one_with_x, two_apart}
use Rattle.cy_oneshot_meaning.proofs.ExampleTrees.{answer, int, id_of, property_of, apply, var, some_node, node_named, node_with_label, node_with_entry, link, single, path, matching, matching_where, optional, item, column, returning, number_cell, text_cell, node_cell, rel_cell, a, b, c, d, n, r, s, x, y}

-- `MATCH (n) RETURN n` where there is no node
no_node : answer empty (matching (single (node_named n) ∷ []) ∷ returning (column n ∷ []) ∷ []) ≡ Ok []
no_node = refl

-- `MATCH (x)-[r]-(y) RETURN x, r, y`: a loop is matched once
loop_once : answer loop (matching (path (node_named x) (link (Some r) Either [] None) (node_named y) ∷ []) ∷ returning (column x ∷ column r ∷ column y ∷ []) ∷ [])
    ≡ Ok ((node_cell 1 ∷ rel_cell 1 ∷ node_cell 1 ∷ []) ∷ [])
loop_once = refl

abbrev any_to_any : Name → Path
any_to_any name = path some_node (link (Some name) Right [] None) some_node

-- `MATCH ()-[r]->(), ()-[s]->() RETURN r, s`: one MATCH doesn't use a relationship twice
not_twice : answer loop (matching (any_to_any r ∷ any_to_any s ∷ []) ∷ returning (column r ∷ column s ∷ []) ∷ []) ≡ Ok []
not_twice = refl

-- `MATCH ()-[r]->() MATCH ()-[s]->() RETURN r, s`: two may
by_two : answer loop (matching (any_to_any r ∷ []) ∷ matching (any_to_any s ∷ []) ∷ returning (column r ∷ column s ∷ []) ∷ [])
    ≡ Ok ((rel_cell 1 ∷ rel_cell 1 ∷ []) ∷ [])
by_two = refl

-- `MATCH (a)-[r]->(b), (c)-[s]->(d) RETURN r, s`
two_paths : answer two_apart (matching (path (node_named a) (link (Some r) Right [] None) (node_named b) ∷ path (node_named c) (link (Some s) Right [] None) (node_named d) ∷ [])
    ∷ returning (column r ∷ column s ∷ []) ∷ [])
    ≡ Ok ((rel_cell 1 ∷ rel_cell 2 ∷ []) ∷ (rel_cell 2 ∷ rel_cell 1 ∷ []) ∷ [])
two_paths = refl

-- `MATCH (n {x: null}) RETURN n`: nothing equals null
null_in_a_map : answer one_with_x (matching (single (node_with_entry n [] x null) ∷ []) ∷ returning (column n ∷ []) ∷ []) ≡ Ok []
null_in_a_map = refl

-- `MATCH (n:A {k: 1}) RETURN n`
label_and_entry : answer keyed (matching (single (node_with_entry n (A ∷ []) (codes "k") (int 1)) ∷ []) ∷ returning (column n ∷ []) ∷ [])
    ≡ Ok ((node_cell 3 ∷ []) ∷ (node_cell 4 ∷ []) ∷ [])
label_and_entry = refl

-- `MATCH (a)-[r]->(b) RETURN r, id(a) AS a, id(b) AS b, type(r) AS t`
ends_and_types : answer three (matching (path (node_named a) (link (Some r) Right [] None) (node_named b) ∷ [])
    ∷ returning (column r ∷ item (id_of a) a ∷ item (id_of b) b ∷ item (apply (codes "type") (var r)) (codes "t") ∷ []) ∷ [])
    ≡ Ok ((rel_cell 1 ∷ number_cell 1 ∷ number_cell 2 ∷ text_cell (codes "T") ∷ [])
    ∷ (rel_cell 2 ∷ number_cell 3 ∷ number_cell 2 ∷ text_cell (codes "U") ∷ [])
    ∷ (rel_cell 3 ∷ number_cell 2 ∷ number_cell 1 ∷ text_cell (codes "T") ∷ []) ∷ [])
unfolding function_named
ends_and_types = refl

-- `MATCH (a)<-[r:U]-(b) RETURN a, b`
turned_and_typed : answer three (matching (path (node_named a) (link (Some r) Left (codes "U" ∷ []) None) (node_named b) ∷ []) ∷ returning (column a ∷ column b ∷ []) ∷ [])
    ≡ Ok ((node_cell 2 ∷ node_cell 3 ∷ []) ∷ [])
turned_and_typed = refl

-- `MATCH (a:A), (b:B) WHERE id(a) = 1 AND id(b) = 2 RETURN a, b`
abbrev is : Name → ℕ → Expression
is name i = comparison (id_of name) (and_link Equal (int i) no_links)

two_by_number : answer three (matching_where (single (node_with_label a A) ∷ single (node_with_label b B) ∷ []) (binary And (is a 1) (is b 2)) ∷ returning (column a ∷ column b ∷ []) ∷ [])
    ≡ Ok ((node_cell 1 ∷ node_cell 2 ∷ []) ∷ [])
unfolding function_named
two_by_number = refl

-- `MATCH (n) WHERE n.x = null RETURN n`: WHERE keeps what is true, and null isn't
null_in_where : answer one_with_x (matching_where (single (node_named n) ∷ []) (comparison (property_of n x) (and_link Equal null no_links)) ∷ returning (column n ∷ []) ∷ []) ≡ Ok []
null_in_where = refl

abbrev division : Expression
division = binary Divide (int 1) (int 0)

-- `MATCH (n {x: 1 / 0}) RETURN n` where there is no node: maps are evaluated all the same
fault_of_a_map : answer empty (matching (single (node_with_entry n [] x division) ∷ []) ∷ returning (column n ∷ []) ∷ []) ≡ Err DivisionByZero
fault_of_a_map = refl

-- `OPTIONAL MATCH (n) MATCH (n {x: 1 / 0}) RETURN n` there: with a null node too
fault_with_null : answer empty (optional (single (node_named n) ∷ []) ∷ matching (single (node_with_entry n [] x division) ∷ []) ∷ returning (column n ∷ []) ∷ []) ≡ Err DivisionByZero
fault_with_null = refl

-- `MATCH (n:B) WHERE 1 / 0 = 1 RETURN n` where no node has the label: WHERE is evaluated where an assignment fits
no_fault_of_where : answer one_with_x (matching_where (single (node_with_label n B) ∷ []) (comparison division (and_link Equal (int 1) no_links)) ∷ returning (column n ∷ []) ∷ []) ≡ Ok []
no_fault_of_where = refl

-- `MATCH (a)-[r]->(a) RETURN a, r`: one name is one node
one_node_twice : answer loop (matching (path (node_named a) (link (Some r) Right [] None) (node_named a) ∷ []) ∷ returning (column a ∷ column r ∷ []) ∷ [])
    ≡ Ok ((node_cell 1 ∷ rel_cell 1 ∷ []) ∷ [])
one_node_twice = refl

no_node_twice : answer both_ways (matching (path (node_named a) (link (Some r) Right [] None) (node_named a) ∷ []) ∷ returning (column a ∷ column r ∷ []) ∷ []) ≡ Ok []
no_node_twice = refl

-- `MATCH (x)-[r]-(y) RETURN x, r, y`: each relationship from either end
from_either_end : answer both_ways (matching (path (node_named x) (link (Some r) Either [] None) (node_named y) ∷ []) ∷ returning (column x ∷ column r ∷ column y ∷ []) ∷ [])
    ≡ Ok ((node_cell 1 ∷ rel_cell 1 ∷ node_cell 2 ∷ []) ∷ (node_cell 1 ∷ rel_cell 2 ∷ node_cell 2 ∷ []) ∷ (node_cell 2 ∷ rel_cell 1 ∷ node_cell 1 ∷ []) ∷ (node_cell 2 ∷ rel_cell 2 ∷ node_cell 1 ∷ []) ∷ [])
from_either_end = refl

-- `MATCH ()-[r:U|T]->(b:B) RETURN r`
one_of_two_types : answer three (matching (path some_node (link (Some r) Right (codes "U" ∷ T ∷ []) None) (node_with_label b B) ∷ []) ∷ returning (column r ∷ []) ∷ [])
    ≡ Ok ((rel_cell 1 ∷ []) ∷ (rel_cell 2 ∷ []) ∷ [])
one_of_two_types = refl
