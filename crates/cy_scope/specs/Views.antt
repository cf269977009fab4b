-- Which statements are queries of views (own).
use Rattle.std.specs.Prelude.{ℕ, Bool, true, false, not, ◌&&◌, ◌||◌, List, [], ◌∷◌, Option, Some, None, is_some, nat_lt, slice_get, length, ◌-◌, if◌then◌else◌}
use Rattle.std.specs.List.{list_any, list_all}
use Rattle.std.specs.Option.{option_map_or}
use Rattle.cy_trees.specs.declared.clauses.Length.{Length}
use Rattle.cy_trees.specs.Trees.{Expression, MapEntry, Step, Path, Item, Key, Projection, PathTest, Where, Clause, «match», «with», «return», create, set, remove, delete, Query, Statement}
use Rattle.cy_scope_kinds.specs.declared.faults.ViewFault.{ViewFault}
use Rattle.cy_scope_kinds.specs.declared.faults.ViewFault.TheVariants.{NotAReading, MayFail, Unbounded, AggregateInView, OrderInView}
use Rattle.cy_scope_kinds.specs.Aggregates.{has_aggregates}
use Rattle.cy_scope_kinds.specs.Scopes.{Scope}
use Rattle.cy_scope.specs.ClauseScopes.{scope_after}
use Rattle.cy_scope_kinds.specs.Sure.{is_sure, is_sure_flag}

-- the greatest upper bound of a length in a view
abbrev pub greatest_length : ℕ
greatest_length = 8

abbrev pub is_update : Clause → Bool
is_update (create paths) = true
is_update (set items) = true
is_update (remove items) = true
is_update (delete detach variables) = true
is_update _ = false

abbrev pub is_return : Clause → Bool
is_return («return» p) = true
is_return _ = false

-- the last clause is RETURN
abbrev pub ends_with_return : List Clause → Bool
ends_with_return clauses = option_map_or is_return (slice_get clauses (length clauses - 1)) false

abbrev pub is_reading : List Clause → Bool
is_reading clauses = ends_with_return clauses && not (list_any is_update clauses)

abbrev pub has_keys : List Key → Bool
has_keys [] = false
has_keys (key ∷ keys) = true

-- ORDER BY, SKIP or LIMIT
abbrev pub has_order : Projection → Bool
has_order p = has_keys p.order || is_some p.skip || is_some p.limit

abbrev pub is_ordered : Clause → Bool
is_ordered («with» p w) = has_order p
is_ordered («return» p) = has_order p
is_ordered _ = false

abbrev pub has_aggregate : Clause → Bool
has_aggregate («with» p w) = has_aggregates p
has_aggregate («return» p) = has_aggregates p
has_aggregate _ = false

-- no upper bound, or one that is too large
abbrev pub is_unbounded_most : Option ℕ → Bool
is_unbounded_most None = true
is_unbounded_most (Some most) = nat_lt greatest_length most

abbrev pub is_unbounded_length : Option Length → Bool
is_unbounded_length None = false
is_unbounded_length (Some l) = is_unbounded_most l.most

abbrev pub has_unbounded : Path → Bool
has_unbounded p = list_any (λ s. is_unbounded_length s.relationship.length) p.steps

abbrev pub has_unbounded_test : List PathTest → Bool
has_unbounded_test tests = list_any (λ t. has_unbounded t.path) tests

-- in the paths of its pattern, or of its WHERE
abbrev pub is_unbounded : Clause → Bool
is_unbounded («match» optional paths w) = list_any has_unbounded paths || has_unbounded_test w.paths
is_unbounded («with» p w) = has_unbounded_test w.paths
is_unbounded _ = false

-- the values of a property map are sure
abbrev pub is_sure_map : Scope → Option (List MapEntry) → Bool
is_sure_map scope None = true
is_sure_map scope (Some entries) = list_all (λ e. is_sure scope e.value) entries

abbrev pub is_sure_step : Scope → Step → Bool
is_sure_step scope s = is_sure_map scope s.relationship.properties && is_sure_map scope s.node.properties

abbrev pub is_sure_path : Scope → Path → Bool
is_sure_path scope p = is_sure_map scope p.start.properties && list_all (is_sure_step scope) p.steps

abbrev pub is_sure_condition : Scope → Option Expression → Bool
is_sure_condition scope None = true
is_sure_condition scope (Some e) = is_sure_flag scope e

abbrev pub are_sure_tests : Scope → List PathTest → Bool
are_sure_tests scope tests = list_all (λ t. is_sure_path scope t.path) tests

abbrev pub is_sure_where : Scope → Where → Bool
is_sure_where scope w = is_sure_condition scope w.test && are_sure_tests scope w.paths

abbrev pub has_tests : List PathTest → Bool
has_tests [] = false
has_tests (t ∷ tests) = true

abbrev pub are_sure_items : Scope → List Item → Bool
are_sure_items scope items = list_all (λ i. is_sure scope i.expression) items

abbrev pub are_sure_paths : Scope → List Path → Bool
are_sure_paths scope paths = list_all (is_sure_path scope) paths

-- what a clause reads in the scope before it: property maps and items; UNWIND isn't sure
abbrev pub is_sure_before : Scope → Clause → Bool
is_sure_before scope («match» optional paths w) = are_sure_paths scope paths
is_sure_before scope («with» p w) = are_sure_items scope p.items
is_sure_before scope («return» p) = are_sure_items scope p.items
is_sure_before scope _ = false

-- what it reads in the scope after it: WHERE, which holds no path in OPTIONAL MATCH
abbrev pub is_sure_after : Scope → Clause → Bool
is_sure_after scope («match» optional paths w) = is_sure_where scope w && not (optional && has_tests w.paths)
is_sure_after scope («with» p w) = is_sure_where scope w
is_sure_after scope _ = true

-- each clause is sure, where the first one begins with the scope
abbrev pub are_sure_clauses : Scope → List Clause → Bool
are_sure_clauses scope [] = true
are_sure_clauses scope (c ∷ cs) =
    is_sure_before scope c && is_sure_after (scope_after scope c) c && are_sure_clauses (scope_after scope c) cs

abbrev pub has_queries : List Query → Bool
has_queries [] = false
has_queries (q ∷ queries) = true

abbrev pub are_readings : List Query → Bool
are_readings queries = has_queries queries && list_all (λ q. is_reading q.clauses) queries

-- a clause of one of the queries has the property
abbrev pub any_clause : (Clause → Bool) → List Query → Bool
any_clause holds queries = list_any (λ q. list_any holds q.clauses) queries

-- why a checked statement is no query of a view, if it is none: the first of the reasons, each asked of all queries
abbrev pub view_fault : Statement → Option ViewFault
view_fault s =
    if not (are_readings s.queries) then Some NotAReading
    else if any_clause is_ordered s.queries then Some OrderInView
    else if any_clause has_aggregate s.queries then Some AggregateInView
    else if any_clause is_unbounded s.queries then Some Unbounded
    else if not (list_all (λ q. are_sure_clauses [] q.clauses) s.queries) then Some MayFail
    else None
