-- The scope after a clause, and after a query (openCypher 9, Clauses).
use Rattle.std.specs.Prelude.{List, [], ◌∷◌, Some}
use Rattle.cy_trees.specs.Trees.{Item, Clause, «match», unwind, «with», «return», create, set, remove, delete, Query}
use Rattle.cy_scope_kinds.specs.declared.kinds.Kind.TheVariants.{Value}
use Rattle.cy_scope_kinds.specs.ExpressionKinds.{kind_of}
use Rattle.cy_scope_kinds.specs.Scopes.{Scope, added_name, added, with_paths}

-- with a column more for each item, of the kind of its expression; their names differ
abbrev pub with_items : Scope → Scope → List Item → Scope
with_items columns scope [] = columns
with_items columns scope (i ∷ items) = with_items (added_name columns (kind_of scope i.expression) i.column) scope items

abbrev pub columns_of : Scope → List Item → Scope
columns_of scope items = with_items [] scope items

abbrev pub scope_after : Scope → Clause → Scope
scope_after scope («match» optional paths w) = with_paths scope paths
scope_after scope (unwind e v) = added scope Value (Some v)
scope_after scope («with» p w) = columns_of scope p.items
scope_after scope («return» p) = columns_of scope p.items
scope_after scope (create paths) = with_paths scope paths
scope_after scope (set items) = scope
scope_after scope (remove items) = scope
scope_after scope (delete detach variables) = scope

abbrev pub scope_after_all : Scope → List Clause → Scope
scope_after_all scope [] = scope
scope_after_all scope (c ∷ cs) = scope_after_all (scope_after scope c) cs

-- the scope at the end of a query, which begins without a variable
abbrev pub query_scope : Query → Scope
query_scope q = scope_after_all [] q.clauses
