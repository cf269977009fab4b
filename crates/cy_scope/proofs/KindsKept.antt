-- Setting the columns of variables changes neither kinds nor scopes.
use Rattle.std.proofs.Common.{◌≡◌, ◌&&◌, ◌||◌, List, [], ◌∷◌, map, Option, Some, None, if◌then◌else◌, refl, ap, ◌∙◌}
use Rattle.std.specs.List.{list_any}
use Rattle.cy_trees.specs.declared.expressions.Variable.{Variable}
use Rattle.cy_trees.specs.Trees.{Expression, null, variable, case, call, Expressions, no_more, more, Arms, no_arms, arm, Otherwise, nothing, otherwise, Step, Path, Item, Projection, Clause, «match», «with», «return», create}
use Rattle.cy_scope_kinds.specs.declared.kinds.Kind.{Kind}
use Rattle.cy_scope_kinds.specs.declared.kinds.Kind.TheVariants.{Node}
use Rattle.cy_scope_kinds.specs.Kinds.{is_flag, flag_if}
use Rattle.cy_scope_kinds.specs.Functions.{function_named}
use Rattle.cy_scope_kinds.specs.Scopes.{Scope, added, added_name, relationship_kind, with_step, with_steps, with_path, with_paths}
use Rattle.cy_scope_kinds.specs.ExpressionKinds.{kind_of, are_flags, gives_flags, is_flag_otherwise, call_kind}
use Rattle.cy_scope.specs.ClauseScopes.{with_items, columns_of, scope_after, scope_after_all}
use Rattle.cy_scope_kinds.specs.Aggregates.{is_aggregate_call}
use Rattle.cy_scope.specs.ProjectionFaults.{seen_by_keys}
use Rattle.cy_scope.specs.Resolved.{resolved, resolved_expressions, resolved_arms, resolved_otherwise, resolved_name, resolved_step, resolved_path, resolved_item, resolved_projection, resolved_clause, resolved_clauses}

module _ (scope columns : Scope) where
  mutual
    pub kind_kept : (e : Expression) → kind_of scope (resolved columns e) ≡ kind_of scope e
    kind_kept (case arms e) =
        ap (λ t. flag_if (t && is_flag_otherwise scope (resolved_otherwise columns e))) (arms_kept arms)
        ∙ ap (λ t. flag_if (gives_flags scope arms && t)) (otherwise_kept e)
    kind_kept (call name distinct es) = ap (λ t. call_kind (function_named name) t) (flags_kept es)
    kind_kept _ = refl

    flags_kept : (es : Expressions) → are_flags scope (resolved_expressions columns es) ≡ are_flags scope es
    flags_kept no_more = refl
    flags_kept (more e es) =
        ap (λ (k : Kind). is_flag k && are_flags scope (resolved_expressions columns es)) (kind_kept e) ∙ ap (λ t. is_flag (kind_of scope e) && t) (flags_kept es)

    arms_kept : (arms : Arms) → gives_flags scope (resolved_arms columns arms) ≡ gives_flags scope arms
    arms_kept no_arms = refl
    arms_kept (arm condition outcome arms) =
        ap (λ (k : Kind). is_flag k && gives_flags scope (resolved_arms columns arms)) (kind_kept outcome)
        ∙ ap (λ t. is_flag (kind_of scope outcome) && t) (arms_kept arms)

    otherwise_kept : (e : Otherwise) → is_flag_otherwise scope (resolved_otherwise columns e) ≡ is_flag_otherwise scope e
    otherwise_kept nothing = refl
    otherwise_kept (otherwise e) = ap is_flag (kind_kept e)

module _ (columns : Scope) where
  variable_kept : (scope : Scope) (kind : Kind) (v : Option Variable) → added scope kind (resolved_name columns v) ≡ added scope kind v
  variable_kept scope kind None = refl
  variable_kept scope kind (Some v) = refl

  step_kept : (scope : Scope) (s : Step) → with_step scope (resolved_step columns s) ≡ with_step scope s
  step_kept scope s =
      ap (λ (now : Scope). added now Node (resolved_name columns s.node.variable)) (variable_kept scope (relationship_kind s.relationship.length) s.relationship.variable)
      ∙ variable_kept (added scope (relationship_kind s.relationship.length) s.relationship.variable) Node s.node.variable

  steps_kept : (scope : Scope) (steps : List Step) → with_steps scope (map (resolved_step columns) steps) ≡ with_steps scope steps
  steps_kept scope [] = refl
  steps_kept scope (s ∷ steps) =
      ap (λ (now : Scope). with_steps now (map (resolved_step columns) steps)) (step_kept scope s) ∙ steps_kept (with_step scope s) steps

  path_kept : (scope : Scope) (p : Path) → with_path scope (resolved_path columns p) ≡ with_path scope p
  path_kept scope p =
      ap (λ (now : Scope). with_steps now (map (resolved_step columns) p.steps)) (variable_kept scope Node p.start.variable)
      ∙ steps_kept (added scope Node p.start.variable) p.steps

  pub paths_kept : (scope : Scope) (paths : List Path) → with_paths scope (map (resolved_path columns) paths) ≡ with_paths scope paths
  paths_kept scope [] = refl
  paths_kept scope (p ∷ paths) =
      ap (λ (now : Scope). with_paths now (map (resolved_path columns) paths)) (path_kept scope p) ∙ paths_kept (with_path scope p) paths

  items_kept : (done scope : Scope) (items : List Item) → with_items done scope (map (resolved_item columns) items) ≡ with_items done scope items
  items_kept done scope [] = refl
  items_kept done scope (i ∷ items) =
      ap (λ (k : Kind). with_items (added_name done k i.column) scope (map (resolved_item columns) items)) (kind_kept scope columns i.expression)
      ∙ items_kept (added_name done (kind_of scope i.expression) i.column) scope items

  pub columns_kept : (scope : Scope) (items : List Item) → columns_of scope (map (resolved_item columns) items) ≡ columns_of scope items
  columns_kept scope items = items_kept [] scope items

  aggregate_kept : (e : Expression) → is_aggregate_call (resolved columns e) ≡ is_aggregate_call e
  aggregate_kept null = refl
  aggregate_kept _ = refl

  aggregates_kept : (items : List Item) → list_any (λ i. is_aggregate_call i.expression) (map (resolved_item columns) items) ≡ list_any (λ i. is_aggregate_call i.expression) items
  aggregates_kept [] = refl
  aggregates_kept (i ∷ items) =
      ap (λ t. t || list_any (λ j. is_aggregate_call j.expression) (map (resolved_item columns) items)) (aggregate_kept i.expression)
      ∙ ap (λ t. is_aggregate_call i.expression || t) (aggregates_kept items)

pub seen_kept : (before after : Scope) (p : Projection) → seen_by_keys (resolved_projection before after p) before ≡ seen_by_keys p before
seen_kept before after p = ap (λ t. if p.distinct || t then [] else before) (aggregates_kept before p.items)

pub scope_kept : (scope after : Scope) (c : Clause) → scope_after scope (resolved_clause scope after c) ≡ scope_after scope c
scope_kept scope after («match» optional paths w) = paths_kept after scope paths
scope_kept scope after («with» p w) = columns_kept scope scope p.items
scope_kept scope after («return» p) = columns_kept scope scope p.items
scope_kept scope after (create paths) = paths_kept after scope paths
scope_kept scope after _ = refl

pub scopes_kept : (scope : Scope) (cs : List Clause) → scope_after_all scope (resolved_clauses scope cs) ≡ scope_after_all scope cs
scopes_kept scope [] = refl
scopes_kept scope (c ∷ cs) =
    let after = scope_after scope c in
    ap (λ (s : Scope). scope_after_all s (resolved_clauses after cs)) (scope_kept scope after c) ∙ scopes_kept after cs
