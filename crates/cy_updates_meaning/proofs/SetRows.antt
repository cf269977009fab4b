-- Worked rows: SET and REMOVE.
use Rattle.std.proofs.Common.{◌≡◌, [], ◌∷◌, refl, Some, None}
use Rattle.std.specs.Prelude.{codes, pos, Ok, Err}
use Rattle.cy_values.specs.declared.scalars.Value.TheVariants as value
use Rattle.cy_trees.specs.declared.clauses.Direction.TheVariants.{Right}
use Rattle.cy_trees.specs.declared.expressions.BinaryOperator.TheVariants.{Add, Divide}
use Rattle.cy_trees.specs.Trees.{Expression, null, binary, set_property, set_labels, remove_property, remove_labels, create, set, remove}
use Rattle.cy_expr.specs.declared.faults.EvalFault.TheVariants.{DivisionByZero}
use Rattle.cy_oneshot_meaning.proofs.ExampleGraphs.{A, B, T, node, empty, loop, twice_five, a_to_b, to_another_b}
use Rattle.cy_oneshot_meaning.proofs.ExampleTrees.{int, named, property_of, some_node, node_named, node_with_label, node_with_entry, link, single, path, matching, optional, item, returning, number_cell, a, b, n, r, x, y}
use Rattle.cy_updates_meaning.specs.declared.faults.UpdateFault.TheVariants.{Eval, NotStorable}
use Rattle.cy_updates_meaning.specs.Statements.{Outcome}
use Rattle.cy_updates_meaning.proofs.ExampleTrees.{whole, outcome_on, counted, leaves, new_node, list_with_null}

-- `CREATE (n {x: 1}) SET n.x = n.x + 1, n.y = n.x RETURN n.x, n.y`: an item reads what the ones before it set
one_by_one : outcome_on (whole empty) (create (single (node_with_entry n [] x (int 1)) ∷ [])
    ∷ set (set_property (named n) x (binary Add (property_of n x) (int 1)) ∷ set_property (named n) y (property_of n x) ∷ [])
    ∷ returning (item (property_of n x) (codes "n.x") ∷ item (property_of n y) (codes "n.y") ∷ []) ∷ [])
    ≡ Ok (record {
      graph = whole (record { nodes = node 1 [] ((x, value.Int (pos 2)) ∷ (y, value.Int (pos 2)) ∷ []) ∷ []; rels = [] });
      counts = counted 1 0 0 0;
      columns = codes "n.x" ∷ codes "n.y" ∷ [];
      rows = (number_cell 2 ∷ number_cell 2 ∷ []) ∷ [];
    })
one_by_one = refl

-- `MATCH (a:A), (b:A) SET a.x = b.x + 1` on two nodes with `x: 5`: so does a row read what the rows before it set
row_by_row : outcome_on (whole twice_five) (matching (single (node_with_label a A) ∷ single (node_with_label b A) ∷ [])
    ∷ set (set_property (named a) x (binary Add (property_of b x) (int 1)) ∷ []) ∷ [])
    ≡ Ok (leaves (whole (record {
      nodes = node 1 ((A, tt) ∷ []) ((x, value.Int (pos 6)) ∷ []) ∷ node 2 ((A, tt) ∷ []) ((x, value.Int (pos 8)) ∷ []) ∷ [];
      rels = [];
    })) (counted 0 0 0 0))
row_by_row = refl

abbrev division : Expression
division = binary Divide (int 1) (int 0)

-- `OPTIONAL MATCH (n) SET n.x = 1 / 0`: evaluated though the target is null
null_target : outcome_on (whole empty) (optional (single (node_named n) ∷ []) ∷ set (set_property (named n) x division ∷ []) ∷ []) ≡ Err (Eval DivisionByZero)
null_target = refl

-- `OPTIONAL MATCH (n) SET n.x = [null]`: nothing is stored
nothing_stored : outcome_on (whole empty) (optional (single (node_named n) ∷ []) ∷ set (set_property (named n) x list_with_null ∷ []) ∷ [])
    ≡ Ok (leaves (whole empty) (counted 0 0 0 0))
nothing_stored = refl

-- `MATCH (n:A) SET n.x = [null]`
not_storable : outcome_on (whole twice_five) (matching (single (node_with_label n A) ∷ []) ∷ set (set_property (named n) x list_with_null ∷ []) ∷ []) ≡ Err NotStorable
not_storable = refl

-- `MATCH (n:A) SET n.x = null`, and `MATCH (n:A) REMOVE n.x`
abbrev without_x : Outcome
without_x = leaves (whole (record { nodes = node 1 ((A, tt) ∷ []) [] ∷ node 2 ((A, tt) ∷ []) [] ∷ []; rels = [] })) (counted 0 0 0 0)

set_to_null : outcome_on (whole twice_five) (matching (single (node_with_label n A) ∷ []) ∷ set (set_property (named n) x null ∷ []) ∷ []) ≡ Ok without_x
set_to_null = refl

removed : outcome_on (whole twice_five) (matching (single (node_with_label n A) ∷ []) ∷ remove (remove_property (named n) x ∷ []) ∷ []) ≡ Ok without_x
removed = refl

-- `MATCH (n:A) SET n:B REMOVE n:A`, where only the label goes that is named
relabelled : outcome_on (whole twice_five) (matching (single (node_with_label n A) ∷ []) ∷ set (set_labels (named n) (B ∷ []) ∷ []) ∷ remove (remove_labels (named n) (A ∷ []) ∷ []) ∷ [])
    ≡ Ok (leaves (whole (record {
      nodes = node 1 ((B, tt) ∷ []) ((x, value.Int (pos 5)) ∷ []) ∷ node 2 ((B, tt) ∷ []) ((x, value.Int (pos 5)) ∷ []) ∷ [];
      rels = [];
    })) (counted 0 0 0 0))
relabelled = refl

-- `MATCH (a:A)-[:T]->(b:B) REMOVE b:B CREATE (a)-[:T]->(:B)`
removed_and_created : outcome_on (whole a_to_b) (matching (path (node_with_label a A) (link None Right (T ∷ []) None) (node_with_label b B) ∷ [])
    ∷ remove (remove_labels (named b) (B ∷ []) ∷ []) ∷ create (path (node_named a) (link None Right (T ∷ []) None) (new_node (B ∷ []) []) ∷ []) ∷ [])
    ≡ Ok (leaves (whole to_another_b) (counted 1 0 1 0))
removed_and_created = refl

-- `MATCH ()-[r]->() SET r.x = 1`
of_a_relationship : outcome_on (whole loop) (matching (path some_node (link (Some r) Right [] None) some_node ∷ []) ∷ set (set_property (named r) x (int 1) ∷ []) ∷ [])
    ≡ Ok (leaves (whole (record {
      nodes = node 1 [] [] ∷ [];
      rels = (record { 0 = 1 }, record { source = record { 0 = 1 }; target = record { 0 = 1 }; kind = T; props = (x, value.Int (pos 1)) ∷ [] }) ∷ [];
    })) (counted 0 0 0 0))
of_a_relationship = refl
