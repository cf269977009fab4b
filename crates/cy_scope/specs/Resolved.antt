-- A statement whose variables have their columns; nothing else is changed (own).
use Rattle.std.specs.Prelude.{List, [], ◌∷◌, ◌++◌, map, Option, option_map, if◌then◌else◌}
use Rattle.cy_trees.specs.declared.expressions.Variable.{Variable}
use Rattle.cy_trees.specs.Trees.{Expression, MapEntry, NodePattern, RelationshipPattern, Step, Path, Item, Key, Projection, SetItem, set_property, set_labels, RemoveItem, remove_property, remove_labels, PathTest, Where, Clause, «match», unwind, «with», «return», create, set, remove, delete, Query, Statement}
use Rattle.cy_scope_kinds.specs.Scopes.{Scope}
pub use Rattle.cy_scope_kinds.specs.ResolvedExpressions.{resolved_variable, resolved, resolved_expressions, resolved_links, resolved_arms, resolved_otherwise}
use Rattle.cy_scope.specs.ClauseScopes.{scope_after}
use Rattle.cy_scope.specs.ProjectionFaults.{repeats, seen_by_keys}

abbrev pub resolved_name : Scope → Option Variable → Option Variable
resolved_name scope v = option_map (resolved_variable scope) v

abbrev pub resolved_entry : Scope → MapEntry → MapEntry
resolved_entry scope e = record { key = e.key; value = resolved scope e.value }

abbrev pub resolved_map : Scope → Option (List MapEntry) → Option (List MapEntry)
resolved_map scope entries = option_map (λ es. map (resolved_entry scope) es) entries

abbrev pub resolved_node : Scope → NodePattern → NodePattern
resolved_node scope n = record { variable = resolved_name scope n.variable; labels = n.labels; properties = resolved_map scope n.properties }

abbrev pub resolved_relationship : Scope → RelationshipPattern → RelationshipPattern
resolved_relationship scope r = record {
  variable = resolved_name scope r.variable;
  direction = r.direction;
  types = r.types;
  length = r.length;
  properties = resolved_map scope r.properties;
}

abbrev pub resolved_step : Scope → Step → Step
resolved_step scope s = record { relationship = resolved_relationship scope s.relationship; node = resolved_node scope s.node }

abbrev pub resolved_path : Scope → Path → Path
resolved_path scope p = record { start = resolved_node scope p.start; steps = map (resolved_step scope) p.steps }

abbrev pub resolved_item : Scope → Item → Item
resolved_item scope i = record { expression = resolved scope i.expression; column = i.column; named = i.named }

-- a key that repeats an item is resolved as that item
abbrev pub resolved_key : Scope → Scope → List Item → Key → Key
resolved_key before scope items key = record {
  expression = (if repeats items key.expression then resolved before key.expression else resolved scope key.expression);
  descending = key.descending;
}

abbrev pub resolved_projection : Scope → Scope → Projection → Projection
resolved_projection before columns p = record {
  distinct = p.distinct;
  items = map (resolved_item before) p.items;
  order = map (resolved_key before (columns ++ seen_by_keys p before) p.items) p.order;
  skip = p.skip;
  limit = p.limit;
}

abbrev pub resolved_set : Scope → SetItem → SetItem
resolved_set scope (set_property v key e) = set_property (resolved_variable scope v) key (resolved scope e)
resolved_set scope (set_labels v labels) = set_labels (resolved_variable scope v) labels

abbrev pub resolved_remove : Scope → RemoveItem → RemoveItem
resolved_remove scope (remove_property v key) = remove_property (resolved_variable scope v) key
resolved_remove scope (remove_labels v labels) = remove_labels (resolved_variable scope v) labels

abbrev pub resolved_condition : Scope → Option Expression → Option Expression
resolved_condition scope test = option_map (resolved scope) test

abbrev pub resolved_path_test : Scope → PathTest → PathTest
resolved_path_test scope t = record { denied = t.denied; path = resolved_path scope t.path }

abbrev pub resolved_where : Scope → Where → Where
resolved_where scope w = record { test = resolved_condition scope w.test; paths = map (resolved_path_test scope) w.paths }

-- what a clause says of the rows that it makes is resolved in the scope after it, which begins with the scope before it but for
-- WITH and RETURN: the items of these, and what keys see of it, are resolved in the scope before. A scope grows at its end alone,
-- so a variable has the same column in both
abbrev pub resolved_clause : Scope → Scope → Clause → Clause
resolved_clause before after («match» optional paths w) = «match» optional (map (resolved_path after) paths) (resolved_where after w)
resolved_clause before after (unwind e v) = unwind (resolved after e) (resolved_variable after v)
resolved_clause before after («with» p w) = «with» (resolved_projection before after p) (resolved_where after w)
resolved_clause before after («return» p) = «return» (resolved_projection before after p)
resolved_clause before after (create paths) = create (map (resolved_path after) paths)
resolved_clause before after (set items) = set (map (resolved_set after) items)
resolved_clause before after (remove items) = remove (map (resolved_remove after) items)
resolved_clause before after (delete detach variables) = delete detach (map (resolved_variable after) variables)

abbrev pub resolved_clauses : Scope → List Clause → List Clause
resolved_clauses scope [] = []
resolved_clauses scope (c ∷ cs) = resolved_clause scope (scope_after scope c) c ∷ resolved_clauses (scope_after scope c) cs

abbrev pub resolved_query : Query → Query
resolved_query q = record { clauses = resolved_clauses [] q.clauses }

abbrev pub resolved_statement : Statement → Statement
resolved_statement s = record { queries = map resolved_query s.queries; all = s.all }
