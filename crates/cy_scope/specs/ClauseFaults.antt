-- The first fault of a statement: its queries in their order, the clauses of each in theirs, and the places of a clause in the
-- order of the text (own).
use Rattle.std.specs.Prelude.{true, false, not, List, [], ◌∷◌, Option, Some, None}
use Rattle.cy_trees.specs.declared.expressions.Variable.{Variable}
use Rattle.cy_trees.specs.Trees.{SetItem, set_property, set_labels, RemoveItem, remove_property, remove_labels, Clause, «match», unwind, «with», «return», create, set, remove, delete, Query, Statement}
use Rattle.cy_scope_kinds.specs.declared.kinds.Kind.{Kind}
use Rattle.cy_scope_kinds.specs.declared.faults.ScopeFault.{ScopeFault}
use Rattle.cy_scope_kinds.specs.declared.faults.ScopeFault.TheVariants.{UnknownVariable, AlreadyBound, WrongKind, DuplicateColumn}
use Rattle.cy_scope_kinds.specs.Kinds.{is_entity}
use Rattle.cy_scope_kinds.specs.Scopes.{Scope, find_kind, is_bound, has_same_names, with_paths}
use Rattle.cy_scope.specs.ClauseScopes.{columns_of, scope_after, query_scope}
use Rattle.cy_scope_kinds.specs.ExpressionFaults.{value_fault}
use Rattle.cy_scope.specs.PatternFaults.{paths_fault}
use Rattle.cy_scope.specs.ProjectionFaults.{projection_fault}
use Rattle.cy_scope.specs.ConditionFaults.{node_only_fault, where_fault}
use Rattle.cy_scope_kinds.specs.Faults.{first, first_fault, unless}

-- a variable that is changed is bound, and an entity
abbrev pub entity_fault : Option Kind → Option ScopeFault
entity_fault None = Some UnknownVariable
entity_fault (Some k) = unless (is_entity k) WrongKind

abbrev pub set_fault : Scope → SetItem → Option ScopeFault
set_fault scope (set_property v key e) = first (entity_fault (find_kind scope v.name)) (value_fault scope e)
set_fault scope (set_labels v labels) = node_only_fault (find_kind scope v.name)

abbrev pub sets_fault : Scope → List SetItem → Option ScopeFault
sets_fault scope items = first_fault (set_fault scope) items

abbrev pub remove_fault : Scope → RemoveItem → Option ScopeFault
remove_fault scope (remove_property v key) = entity_fault (find_kind scope v.name)
remove_fault scope (remove_labels v labels) = node_only_fault (find_kind scope v.name)

abbrev pub removes_fault : Scope → List RemoveItem → Option ScopeFault
removes_fault scope items = first_fault (remove_fault scope) items

abbrev pub deletes_fault : Scope → List Variable → Option ScopeFault
deletes_fault scope variables = first_fault (λ v. entity_fault (find_kind scope v.name)) variables

abbrev pub clause_fault : Scope → Clause → Option ScopeFault
clause_fault scope («match» optional paths w) = first (paths_fault false scope scope paths) (where_fault (with_paths scope paths) w)
clause_fault scope (unwind e v) = first (value_fault scope e) (unless (not (is_bound scope v.name)) AlreadyBound)
clause_fault scope («with» p w) = first (projection_fault true scope p) (where_fault (columns_of scope p.items) w)
clause_fault scope («return» p) = projection_fault false scope p
clause_fault scope (create paths) = paths_fault true scope scope paths
clause_fault scope (set items) = sets_fault scope items
clause_fault scope (remove items) = removes_fault scope items
clause_fault scope (delete detach variables) = deletes_fault scope variables

abbrev pub clauses_fault : Scope → List Clause → Option ScopeFault
clauses_fault scope [] = None
clauses_fault scope (c ∷ cs) = first (clause_fault scope c) (clauses_fault (scope_after scope c) cs)

-- each query begins without a variable
abbrev pub query_fault : Query → Option ScopeFault
query_fault q = clauses_fault [] q.clauses

-- a query after the first: at its end its columns have the names of those of the first, in the same order
abbrev pub later_query_fault : Scope → Query → Option ScopeFault
later_query_fault columns q = first (query_fault q) (unless (has_same_names columns (query_scope q)) DuplicateColumn)

abbrev pub queries_fault : List Query → Option ScopeFault
queries_fault [] = None
queries_fault (q ∷ qs) = first (query_fault q) (first_fault (later_query_fault (query_scope q)) qs)

-- the code of the first faulty place, where there is one
abbrev pub statement_fault : Statement → Option ScopeFault
statement_fault s = queries_fault s.queries
