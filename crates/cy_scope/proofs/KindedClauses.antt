-- Clauses without a fault, with the columns of their variables: each expression is of a kind that its place takes.
use Rattle.std.proofs.Common.{arith, ◌≡◌, Bool, true, false, not, ◌||◌, List, [], ◌∷◌, ◌++◌, map, append_assoc, Option, Some, None, inl, inr, refl, sym, ap, subst, ◌∙◌, if◌then◌else◌}
use Rattle.std.specs.Prelude.{is_some, ◌⊎◌}
use Rattle.std.specs.List.{All, Contains}
use Rattle.std.proofs.lemmas.List.{append-nil}
use Rattle.std.proofs.lemmas.List.Elements.{All-nil, All-cons, Contains-append_right}
use Rattle.std.proofs.lemmas.Option.{none-some}
use Rattle.cy_values.proofs.Booleans.{untrue}
use Rattle.cy_trees.specs.declared.expressions.Variable.{Variable}
use Rattle.cy_trees.specs.Trees.{Name, Expression, null, boolean, integer, text, variable, property, has_labels, unary, binary, comparison, list, case, call, call_star, Expressions, Path, Item, Key, Projection, SetItem, set_property, set_labels, RemoveItem, remove_property, remove_labels, Clause, «match», unwind, «with», «return», create, set, remove, delete}
use Rattle.cy_scope_kinds.specs.declared.kinds.Kind.{Kind}
use Rattle.cy_scope_kinds.specs.declared.kinds.Kind.TheVariants.{Value}
use Rattle.cy_scope_kinds.specs.declared.faults.ScopeFault.TheVariants.{UnknownVariable, UnknownFunction, AlreadyBound, WrongKind, MissingAlias, DuplicateColumn, WrongArguments}
use Rattle.cy_scope_kinds.specs.declared.functions.Function.{Function}
use Rattle.cy_scope_kinds.specs.declared.functions.Function.TheVariants as function
use Rattle.cy_scope_kinds.specs.Kinds.{is_entity}
use Rattle.cy_scope_kinds.specs.Functions.{function_named, is_aggregate}
use Rattle.cy_scope_kinds.specs.Faults.{first, unless}
use Rattle.cy_scope_kinds.specs.Scopes.{Scope, find_kind, is_bound, added_name, added, with_paths}
use Rattle.cy_scope_kinds.specs.ExpressionKinds.{kind_of}
use Rattle.cy_scope_kinds.specs.ExpressionFaults.{expressions_fault, expression_fault, call_fault, star_fault, item_fault, value_fault}
use Rattle.cy_scope.specs.PatternFaults.{paths_fault}
use Rattle.cy_scope.specs.ClauseScopes.{with_items, columns_of, scope_after}
use Rattle.cy_scope_kinds.specs.Same.{same}
use Rattle.cy_scope.specs.ProjectionFaults.{has_name, item_place_fault, items_fault, repeats, keys_fault, seen_by_keys, projection_fault}
use Rattle.cy_scope.specs.ClauseFaults.{entity_fault, set_fault, sets_fault, remove_fault, removes_fault, deletes_fault, clause_fault, clauses_fault}
use Rattle.cy_scope.specs.ConditionFaults.{where_fault}
use Rattle.cy_scope.specs.Resolved.{resolved, resolved_expressions, resolved_variable, resolved_path, resolved_item, resolved_key, resolved_projection, resolved_set, resolved_remove, resolved_where, resolved_clause, resolved_clauses}
use Rattle.cy_scope_kinds.specs.Kinded.{HasKind, HaveKinds, IsAggregate, IsKinded}
use Rattle.cy_scope.specs.Checked.{IsEntityColumn, WhereGivesValue, PathIsKinded, ItemIsKinded, item_column, ProjectionIsKinded, SetIsKinded, RemoveIsKinded, ClauseIsKinded, ClausesAreKinded}
use Rattle.cy_scope.proofs.Columns.{reads-same, reads-variable, reads-paths, keeps-same, added_here}
use Rattle.cy_scope.proofs.KindedExpressions.{first_none, unless_none, kinds_of, good_call, call_is, call_kind_is, has_kind, have_kinds, gives_value}
use Rattle.cy_scope.proofs.KindedPatterns.{paths_kinded}
use Rattle.cy_scope.proofs.KindedConditions.{node_only_kinded, where_in}
use Rattle.cy_scope.proofs.KindsKept.{kind_kept, paths_kept, columns_kept, seen_kept, scope_kept}
use Rattle.cy_scope.proofs.SameTrees.{same_resolved}

-- a whole item with a `*` is a count
star_counts : (o : Option Function) → star_fault true o ≡ None → o ≡ Some function.Count
star_counts None good = absurd (none-some UnknownFunction (sym good))
star_counts (Some function.Count) good = refl
star_counts (Some _) good = absurd (none-some WrongArguments (sym good))

-- an item's expression may be an aggregate
abbrev IsItem : Scope → Expression → Kind → Type 0
IsItem scope e k = HasKind scope e k ⊎ IsAggregate scope e k

module _ (scope : Scope) where
  call_item : (name : Name) (distinct : Bool) (es : Expressions) (o : Option Function) → function_named name ≡ o → call_fault true scope o distinct es ≡ None
      → HaveKinds scope (resolved_expressions scope es) (kinds_of scope es)
      → IsItem scope (call name distinct (resolved_expressions scope es)) (kind_of scope (call name distinct es))
  call_item name distinct es None named good kinds = absurd (none-some UnknownFunction (sym good))
  call_item name distinct es (Some function) named good kinds = cases (is_aggregate function) refl
    where
      cases : (t : Bool) → is_aggregate function ≡ t → IsItem scope (call name distinct (resolved_expressions scope es)) (kind_of scope (call name distinct es))
      cases true is =
          inr (function, kinds_of scope es, named, is, kinds, call_is scope scope true function distinct es (good_call true scope function distinct es good), call_kind_is scope scope name function es named)
      cases false is =
          inl (function, kinds_of scope es, named, ap not is, kinds, call_is scope scope true function distinct es (good_call true scope function distinct es good), call_kind_is scope scope name function es named)

  item_kinded : (e : Expression) → item_fault scope e ≡ None → IsItem scope (resolved scope e) (kind_of scope e)
  item_kinded (call name distinct es) good =
      let (inner, called) = first_none (expressions_fault scope es) (call_fault true scope (function_named name) distinct es) good in
      call_item name distinct es (function_named name) refl called (have_kinds scope scope (reads-same scope) es inner)
  item_kinded (call_star name) good = inr (star_counts (function_named name) good, refl)
  item_kinded null good = inl (has_kind scope scope (reads-same scope) null good)
  item_kinded (boolean b) good = inl (has_kind scope scope (reads-same scope) (boolean b) good)
  item_kinded (integer n) good = inl (has_kind scope scope (reads-same scope) (integer n) good)
  item_kinded (text t) good = inl (has_kind scope scope (reads-same scope) (text t) good)
  item_kinded (variable v) good = inl (has_kind scope scope (reads-same scope) (variable v) good)
  item_kinded (property e key) good = inl (has_kind scope scope (reads-same scope) (property e key) good)
  item_kinded (has_labels e labels) good = inl (has_kind scope scope (reads-same scope) (has_labels e labels) good)
  item_kinded (unary operator e) good = inl (has_kind scope scope (reads-same scope) (unary operator e) good)
  item_kinded (binary operator a b) good = inl (has_kind scope scope (reads-same scope) (binary operator a b) good)
  item_kinded (comparison e links) good = inl (has_kind scope scope (reads-same scope) (comparison e links) good)
  item_kinded (list es) good = inl (has_kind scope scope (reads-same scope) (list es) good)
  item_kinded (case arms e) good = inl (has_kind scope scope (reads-same scope) (case arms e) good)

  -- the parts of an item without a fault
  item_good : (naming : Bool) (columns : Scope) (i : Item) → item_place_fault naming scope columns i ≡ None → (item_fault scope i.expression ≡ None) × (is_bound columns i.column ≡ false)
  item_good naming columns i good =
      let named = unless (has_name naming i) MissingAlias in
      let fresh = unless (not (is_bound columns i.column)) DuplicateColumn in
      let (inner, others) = first_none (item_fault scope i.expression) (first named fresh) good in
      (inner, untrue (is_bound columns i.column) (unless_none (not (is_bound columns i.column)) DuplicateColumn (first_none named fresh others).1))

  items_kinded : (naming : Bool) (columns : Scope) (items : List Item) → items_fault naming scope columns items ≡ None → All (ItemIsKinded scope) (map (resolved_item scope) items)
  items_kinded naming columns [] good = All-nil (ItemIsKinded scope)
  items_kinded naming columns (i ∷ items) good =
      let next = added_name columns (kind_of scope i.expression) i.column in
      let (here, others) = first_none (item_place_fault naming scope columns i) (items_fault naming scope next items) good in
      All-cons (ItemIsKinded scope) (resolved_item scope i) (map (resolved_item scope) items)
      (subst (λ k. IsItem scope (resolved scope i.expression) k) (sym (kind_kept scope scope i.expression)) (item_kinded i.expression (item_good naming columns i here).0))
      (items_kinded naming next items others)

  -- each item makes a column
  columns_are : (naming : Bool) (columns : Scope) (items : List Item) → items_fault naming scope columns items ≡ None → with_items columns scope items ≡ columns ++ map (item_column scope) items
  columns_are naming columns [] good = sym (append-nil columns)
  columns_are naming columns (i ∷ items) good =
      let next = added_name columns (kind_of scope i.expression) i.column in
      let (here, others) = first_none (item_place_fault naming scope columns i) (items_fault naming scope next items) good in
      columns_are naming next items others
      ∙ ap (λ t. (if t then columns else columns ++ item_column scope i ∷ []) ++ map (item_column scope) items) (item_good naming columns i here).1
      ∙ append_assoc columns (item_column scope i ∷ []) (map (item_column scope) items)

  same_columns : (items : List Item) → map (item_column scope) (map (resolved_item scope) items) ≡ map (item_column scope) items
  same_columns [] = refl
  same_columns (i ∷ items) =
      ap (λ (k : Kind). (i.column, k) ∷ map (item_column scope) (map (resolved_item scope) items)) (kind_kept scope scope i.expression)
      ∙ ap (λ (vs : Scope). item_column scope i ∷ vs) (same_columns items)

  -- a key that repeats an item is resolved as that item
  abbrev IsItems : List Item → Expression → Type 0
  IsItems items e = (i : Item) × Contains (map (resolved_item scope) items) i × (resolved scope e ≡ i.expression)

  repeated : (items : List Item) (e : Expression) → repeats items e ≡ true → IsItems items e
  repeated [] e is = cc
  repeated (i ∷ items) e is = cases (same i.expression e) refl (λ others. repeated items e others) is
    where
      cases : (t : Bool) → same i.expression e ≡ t → (repeats items e ≡ true → IsItems items e) → (same i.expression e || repeats items e) ≡ true → IsItems (i ∷ items) e
      cases true alike others is = (resolved_item scope i, (0, omega arith, refl), sym (same_resolved scope i.expression e alike))
      cases false alike others is =
          let (j, within, equal) = others (sym (ap (λ t. t || repeats items e) alike) ∙ is) in
          (j, Contains-append_right (resolved_item scope i ∷ []) (map (resolved_item scope) items) j within, equal)

  abbrev IsKey : Scope → List Item → Expression → Type 0
  IsKey seen items e = ((i : Item) × Contains items i × (e ≡ i.expression)) ⊎ IsKinded seen e

  key_kinded : (seen : Scope) (items : List Item) (key : Key) → (if repeats items key.expression then None else expression_fault seen key.expression) ≡ None
      → IsKey seen (map (resolved_item scope) items) (resolved_key scope seen items key).expression
  key_kinded seen items key good = cases (repeats items key.expression) refl
    where
      cases : (t : Bool) → repeats items key.expression ≡ t → IsKey seen (map (resolved_item scope) items) (resolved_key scope seen items key).expression
      cases true is =
          subst (λ t. IsKey seen (map (resolved_item scope) items) (if t then resolved scope key.expression else resolved seen key.expression)) (sym is)
          (inl (repeated items key.expression is))
      cases false is =
          subst (λ t. IsKey seen (map (resolved_item scope) items) (if t then resolved scope key.expression else resolved seen key.expression)) (sym is)
          (inr (kind_of seen key.expression, has_kind seen seen (reads-same seen) key.expression (sym (ap (λ t. if t then None else expression_fault seen key.expression) is) ∙ good)))

  keys_kinded : (seen : Scope) (items : List Item) (keys : List Key) → keys_fault seen items keys ≡ None
      → All (λ key. IsKey seen (map (resolved_item scope) items) key.expression) (map (resolved_key scope seen items) keys)
  keys_kinded seen items [] good = All-nil (λ (key : Key). IsKey seen (map (resolved_item scope) items) key.expression)
  keys_kinded seen items (key ∷ keys) good =
      let (here, others) = first_none (if repeats items key.expression then None else expression_fault seen key.expression) (keys_fault seen items keys) good in
      All-cons (λ (k : Key). IsKey seen (map (resolved_item scope) items) k.expression) (resolved_key scope seen items key) (map (resolved_key scope seen items) keys)
      (key_kinded seen items key here) (keys_kinded seen items keys others)

  projection_kinded : (naming : Bool) (p : Projection) → projection_fault naming scope p ≡ None → ProjectionIsKinded scope (resolved_projection scope (columns_of scope p.items) p)
  projection_kinded naming p good =
      let columns = columns_of scope p.items in
      let q = resolved_projection scope columns p in
      let seen = columns ++ seen_by_keys p scope in
      let (items, keys) = first_none (items_fault naming scope [] p.items) (keys_fault seen p.items p.order) good in
      let same_seen : seen ≡ columns_of scope q.items ++ seen_by_keys q scope =
      ap (λ (s : Scope). s ++ seen_by_keys p scope) (sym (columns_kept scope scope p.items)) ∙ ap (λ (s : Scope). columns_of scope q.items ++ s) (sym (seen_kept scope columns p)) in (
        items_kinded naming [] p.items items,
        columns_kept scope scope p.items ∙ columns_are naming [] p.items items ∙ sym (same_columns p.items),
        subst (λ (s : Scope). All (λ key. IsKey s q.items key.expression) q.order) same_seen (keys_kinded seen p.items p.order keys),
      )

  entity_kinded : (v : Variable) (o : Option Kind) → find_kind scope v.name ≡ o → entity_fault o ≡ None → IsEntityColumn scope (resolved_variable scope v)
  entity_kinded v None is good = absurd (none-some UnknownVariable (sym good))
  entity_kinded v (Some k) is good = (k, reads-same scope v.name k is, unless_none (is_entity k) WrongKind good)

  set_kinded : (i : SetItem) → set_fault scope i ≡ None → SetIsKinded scope (resolved_set scope i)
  set_kinded (set_property v key e) good =
      let (owner, value) = first_none (entity_fault (find_kind scope v.name)) (value_fault scope e) good in
      (entity_kinded v (find_kind scope v.name) refl owner, gives_value scope scope (reads-same scope) e value)
  set_kinded (set_labels v labels) good = node_only_kinded scope v (find_kind scope v.name) refl good

  sets_kinded : (items : List SetItem) → sets_fault scope items ≡ None → All (SetIsKinded scope) (map (resolved_set scope) items)
  sets_kinded [] good = All-nil (SetIsKinded scope)
  sets_kinded (i ∷ items) good =
      let (here, others) = first_none (set_fault scope i) (sets_fault scope items) good in
      All-cons (SetIsKinded scope) (resolved_set scope i) (map (resolved_set scope) items) (set_kinded i here) (sets_kinded items others)

  remove_kinded : (i : RemoveItem) → remove_fault scope i ≡ None → RemoveIsKinded scope (resolved_remove scope i)
  remove_kinded (remove_property v key) good = entity_kinded v (find_kind scope v.name) refl good
  remove_kinded (remove_labels v labels) good = node_only_kinded scope v (find_kind scope v.name) refl good

  removes_kinded : (items : List RemoveItem) → removes_fault scope items ≡ None → All (RemoveIsKinded scope) (map (resolved_remove scope) items)
  removes_kinded [] good = All-nil (RemoveIsKinded scope)
  removes_kinded (i ∷ items) good =
      let (here, others) = first_none (remove_fault scope i) (removes_fault scope items) good in
      All-cons (RemoveIsKinded scope) (resolved_remove scope i) (map (resolved_remove scope) items) (remove_kinded i here) (removes_kinded items others)

  deletes_kinded : (vs : List Variable) → deletes_fault scope vs ≡ None → All (IsEntityColumn scope) (map (resolved_variable scope) vs)
  deletes_kinded [] good = All-nil (IsEntityColumn scope)
  deletes_kinded (v ∷ vs) good =
      let (here, others) = first_none (entity_fault (find_kind scope v.name)) (deletes_fault scope vs) good in
      All-cons (IsEntityColumn scope) (resolved_variable scope v) (map (resolved_variable scope) vs) (entity_kinded v (find_kind scope v.name) refl here) (deletes_kinded vs others)

  pattern_kinded : (creating : Bool) (paths : List Path) → paths_fault creating scope scope paths ≡ None
      → let after = with_paths scope paths in let ps = map (resolved_path after) paths in All (PathIsKinded scope (with_paths scope ps)) ps
  pattern_kinded creating paths good =
      let after = with_paths scope paths in
      let ps = map (resolved_path after) paths in
      subst (λ (s : Scope). All (PathIsKinded scope s) ps) (sym (paths_kept after scope paths))
      (paths_kinded scope after (reads-paths scope paths) creating scope paths (keeps-same after) good)

  free : (name : Name) (o : Option Kind) → find_kind scope name ≡ o → not (is_some o) ≡ true → find_kind scope name ≡ None
  free name None is bound = is
  free name (Some k) is bound = cc

  clause_kinded : (c : Clause) → clause_fault scope c ≡ None → ClauseIsKinded scope (resolved_clause scope (scope_after scope c) c)
  clause_kinded («match» optional paths w) good =
      let after = with_paths scope paths in
      let (pattern, kept) = first_none (paths_fault false scope scope paths) (where_fault after w) good in (
        pattern_kinded false paths pattern,
        subst (λ (s : Scope). WhereGivesValue s (resolved_where after w)) (sym (paths_kept after scope paths)) (where_in after w kept),
      )
  clause_kinded (unwind e v) good =
      let (value, name) = first_none (value_fault scope e) (unless (not (is_bound scope v.name)) AlreadyBound) good in (
        gives_value scope (added scope Value (Some v)) (reads-variable scope Value (Some v)) e value,
        reads-same (added_name scope Value v.name) v.name Value
            (added_here scope Value v.name (free v.name (find_kind scope v.name) refl (unless_none (not (is_bound scope v.name)) AlreadyBound name))),
      )
  clause_kinded («with» p w) good =
      let columns = columns_of scope p.items in
      let (projected, kept) = first_none (projection_fault true scope p) (where_fault columns w) good in (
        projection_kinded true p projected,
        subst (λ (s : Scope). WhereGivesValue s (resolved_where columns w)) (sym (columns_kept scope scope p.items)) (where_in columns w kept),
      )
  clause_kinded («return» p) good = projection_kinded false p good
  clause_kinded (create paths) good = pattern_kinded true paths good
  clause_kinded (set items) good = sets_kinded items good
  clause_kinded (remove items) good = removes_kinded items good
  clause_kinded (delete detach vs) good = deletes_kinded vs good

pub clauses_kinded : (scope : Scope) (cs : List Clause) → clauses_fault scope cs ≡ None → ClausesAreKinded scope (resolved_clauses scope cs)
clauses_kinded scope [] good = tt
clauses_kinded scope (c ∷ cs) good =
    let after = scope_after scope c in
    let (here, others) = first_none (clause_fault scope c) (clauses_fault after cs) good in (
      clause_kinded scope c here,
      subst (λ (s : Scope). ClausesAreKinded s (resolved_clauses after cs)) (sym (scope_kept scope after c)) (clauses_kinded after cs others),
    )
