-- The first fault of some lines, and why some are no queries of views, computed.
use Rattle.std.proofs.Common.{◌≡◌, ℕ, List, [], ◌∷◌, Option, Some, None, false, true, pos, refl}
use Rattle.std.specs.Prelude.{codes}
use Rattle.std.specs.Option.{option_map}
use Rattle.cy_trees.specs.declared.clauses.Direction.TheVariants.{Either}
use Rattle.cy_trees.specs.Trees.{Name, Expression, integer, null, variable, NodePattern, RelationshipPattern, Path, Item, Projection, Where, Clause, «match», «with», «return», create, Query}
use Rattle.cy_scope_kinds.specs.Faults.{scope_code, view_code}
use Rattle.cy_scope.specs.ClauseFaults.{statement_fault}
use Rattle.cy_scope.specs.Views.{view_fault}
use Rattle.cy_scope.specs.Checked.{single}

abbrev place : Name → NodePattern
place n = record { variable = Some (record { name = n; column = None }); labels = []; properties = None }

abbrev node : Name → Path
node n = record { start = place n; steps = [] }

abbrev unnamed_relationship : RelationshipPattern
unnamed_relationship = record { variable = None; direction = Either; types = []; length = None; properties = None }

abbrev named_relationship : Name → RelationshipPattern
named_relationship r = record unnamed_relationship { variable = Some (record { name = r; column = None }) }

-- a length from 1 up to this
abbrev long_relationship : ℕ → RelationshipPattern
long_relationship most = record unnamed_relationship { length = Some (record { least = 1; most = Some most }) }

abbrev path : Name → RelationshipPattern → Name → Path
path a r b = record { start = place a; steps = record { relationship = r; node = place b } ∷ [] }

abbrev item : Expression → Name → Item
item e column = record { expression = e; column = column; named = true }

abbrev unnamed : Expression → Name → Item
unnamed e column = record { expression = e; column = column; named = false }

abbrev items : List Item → Projection
items is = record { distinct = false; items = is; order = []; skip = None; limit = None }

abbrev projection : Item → Projection
projection i = items (i ∷ [])

abbrev read : Name → Expression
read n = variable (record { name = n; column = None })

abbrev returned : Name → Clause
returned n = «return» (projection (unnamed (read n) n))

abbrev returned_number : Name → Query
returned_number n = record { clauses = «return» (projection (item (integer (pos 1)) n)) ∷ [] }

abbrev no_where : Where
no_where = record { test = None; paths = [] }

abbrev where_path : Path → Where
where_path p = record { test = None; paths = record { denied = false; path = p } ∷ [] }

abbrev code_of : List Clause → Option ℕ
code_of clauses = option_map scope_code (statement_fault (single (record { clauses = clauses })))

abbrev code_of_union : List Query → Option ℕ
code_of_union queries = option_map scope_code (statement_fault (record { queries = queries; all = true }))

abbrev view_code_of : List Clause → Option ℕ
view_code_of clauses = option_map view_code (view_fault (single (record { clauses = clauses })))

-- RETURN x
unknown_variable : code_of (returned (codes "x") ∷ []) ≡ Some 30
unknown_variable = refl

-- CREATE (a), (a)
already_bound : code_of (create (node (codes "a") ∷ node (codes "a") ∷ []) ∷ []) ≡ Some 31
already_bound = refl

-- WITH 1 RETURN 2 AS x
missing_alias : code_of («with» (projection (unnamed (integer (pos 1)) (codes "1"))) no_where ∷ «return» (projection (item (integer (pos 2)) (codes "x"))) ∷ []) ≡ Some 33
missing_alias = refl

-- WITH 1 AS x RETURN x
no_fault : code_of («with» (projection (item (integer (pos 1)) (codes "x"))) no_where ∷ returned (codes "x") ∷ []) ≡ None
no_fault = refl

-- RETURN 1 AS x UNION ALL RETURN 1 AS x UNION ALL RETURN null AS x
same_columns : code_of_union (returned_number (codes "x") ∷ returned_number (codes "x") ∷ record { clauses = «return» (projection (item null (codes "x"))) ∷ [] } ∷ []) ≡ None
same_columns = refl

-- RETURN 1 AS x UNION RETURN 1 AS y
other_columns : code_of_union (returned_number (codes "x") ∷ returned_number (codes "y") ∷ []) ≡ Some 34
other_columns = refl

-- RETURN 1 AS x UNION ALL RETURN y AS z: the fault of the later query comes before its end
later_query : code_of_union (returned_number (codes "x") ∷ record { clauses = «return» (projection (item (read (codes "y")) (codes "z"))) ∷ [] } ∷ []) ≡ Some 30
later_query = refl

-- MATCH (a) WHERE (a)--(a) RETURN a
bound_nodes : code_of («match» false (node (codes "a") ∷ []) (where_path (path (codes "a") unnamed_relationship (codes "a"))) ∷ returned (codes "a") ∷ []) ≡ None
bound_nodes = refl

-- MATCH (a) WHERE (a)--(b) RETURN a
unbound_node : code_of («match» false (node (codes "a") ∷ []) (where_path (path (codes "a") unnamed_relationship (codes "b"))) ∷ returned (codes "a") ∷ []) ≡ Some 30
unbound_node = refl

-- WITH 1 AS a WHERE (a)--(a) RETURN a
no_node : code_of («with» (projection (item (integer (pos 1)) (codes "a"))) (where_path (path (codes "a") unnamed_relationship (codes "a"))) ∷ returned (codes "a") ∷ []) ≡ Some 32
no_node = refl

-- MATCH (a)-[r]-(b) WHERE (a)-[r]-(b) RETURN a
bound_relationship :
    code_of («match» false (path (codes "a") (named_relationship (codes "r")) (codes "b") ∷ []) (where_path (path (codes "a") (named_relationship (codes "r")) (codes "b"))) ∷ returned (codes "a") ∷ []) ≡ Some 31
bound_relationship = refl

-- MATCH (a) WHERE (a)-[r]-(a) RETURN a
unbound_relationship : code_of («match» false (node (codes "a") ∷ []) (where_path (path (codes "a") (named_relationship (codes "r")) (codes "a"))) ∷ returned (codes "a") ∷ []) ≡ Some 30
unbound_relationship = refl

-- MATCH (a)-[*1..8]-(b) RETURN a
length_of_eight : view_code_of («match» false (path (codes "a") (long_relationship 8) (codes "b") ∷ []) no_where ∷ returned (codes "a") ∷ []) ≡ None
length_of_eight = refl

-- MATCH (a) WHERE (a)-[*1..9]-(a) RETURN a
length_of_nine : view_code_of («match» false (node (codes "a") ∷ []) (where_path (path (codes "a") (long_relationship 9) (codes "a"))) ∷ returned (codes "a") ∷ []) ≡ Some 64
length_of_nine = refl

-- OPTIONAL MATCH (a) WHERE (a)--(a) RETURN a
optional_path : view_code_of («match» true (node (codes "a") ∷ []) (where_path (path (codes "a") unnamed_relationship (codes "a"))) ∷ returned (codes "a") ∷ []) ≡ Some 63
optional_path = refl
