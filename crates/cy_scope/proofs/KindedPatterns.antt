-- A pattern without a fault, with the columns of its variables: its names are columns of their kinds, and its maps give values.
use Rattle.std.proofs.Common.{◌≡◌, Bool, true, false, not, ◌&&◌, ◌||◌, List, [], ◌∷◌, map, Option, Some, None, inl, inr, refl, sym, ap}
use Rattle.std.specs.Prelude.{is_none, ◌⊎◌}
use Rattle.std.specs.List.{All}
use Rattle.std.proofs.lemmas.List.Elements.{All-nil, All-cons}
use Rattle.std.proofs.lemmas.Option.{none-some}
use Rattle.cy_trees.specs.declared.expressions.Variable.{Variable}
use Rattle.cy_trees.specs.Trees.{Name, MapEntry, NodePattern, RelationshipPattern, Step, Path}
use Rattle.cy_scope_kinds.specs.declared.kinds.Kind.{Kind}
use Rattle.cy_scope_kinds.specs.declared.kinds.Kind.TheVariants.{Node, Relationship, Relationships, Value, Flag}
use Rattle.cy_scope_kinds.specs.declared.faults.ScopeFault.TheVariants.{AlreadyBound, WrongKind, RepeatedRelationship, BadCreate}
use Rattle.cy_scope_kinds.specs.Kinds.{is_node}
use Rattle.cy_scope_kinds.specs.Faults.{first, unless}
use Rattle.cy_scope_kinds.specs.Scopes.{Scope, find_kind, is_bound, added_name, added, relationship_kind, with_step, with_steps, with_path, with_paths}
use Rattle.cy_scope_kinds.specs.ExpressionFaults.{value_fault}
use Rattle.cy_scope.specs.PatternFaults.{entries_fault, map_fault, named_node_fault, node_name_fault, is_bare, node_fault, repeated_fault, named_relationship_fault, relationship_name_fault, can_be_made, relationship_fault, step_fault, steps_fault, has_steps, path_fault, paths_fault}
use Rattle.cy_scope.specs.Resolved.{resolved_name, resolved_entry, resolved_map, resolved_node, resolved_relationship, resolved_step, resolved_path}
use Rattle.cy_scope.specs.Checked.{GivesValue, NameIsColumn, MapGivesValues, NodeIsKinded, RelationshipIsKinded, StepIsKinded, PathIsKinded}
use Rattle.cy_scope.proofs.Columns.{Reads, reads-same, Keeps, keeps-variable, keeps-steps, keeps-paths, keeps-then, added_here}
use Rattle.cy_scope.proofs.KindedExpressions.{first_none, unless_none, node_is, gives_value}

none_is : (o : Option Kind) → is_none o ≡ true → o ≡ None
none_is None is = refl
none_is (Some k) is = cc

-- where a name stands at a node place, it is new or that of a node
node_named : (creating joined : Bool) (o : Option Kind) → named_node_fault creating joined o ≡ None → (o ≡ None) ⊎ (o ≡ Some Node)
node_named creating joined None good = inl refl
node_named true joined (Some k) good =
    let (free, kinds) = first_none (unless joined AlreadyBound) (unless (is_node k) WrongKind) good in
    inr (ap (λ (l : Kind). Some l) (node_is k (unless_none (is_node k) WrongKind kinds)))
node_named false joined (Some k) good = inr (ap (λ (l : Kind). Some l) (node_is k (unless_none (is_node k) WrongKind good)))

-- at a relationship place it is new
relationship_named : (creating bound : Bool) (o : Option Kind) → named_relationship_fault creating bound o ≡ None → o ≡ None
relationship_named true bound o good = none_is o (unless_none (is_none o) AlreadyBound good)
relationship_named false bound None good = refl
relationship_named false bound (Some k) good =
    absurd (repeated k (first_none (unless (not bound) AlreadyBound) (repeated_fault (Some k)) good).1)
  where
    repeated : (k : Kind) → repeated_fault (Some k) ≡ None → ⊥
    repeated Node is = none-some WrongKind (sym is)
    repeated Relationship is = none-some RepeatedRelationship (sym is)
    repeated Relationships is = none-some RepeatedRelationship (sym is)
    repeated Value is = none-some RepeatedRelationship (sym is)
    repeated Flag is = none-some RepeatedRelationship (sym is)

node_added : (now : Scope) (name : Name) → (find_kind now name ≡ None) ⊎ (find_kind now name ≡ Some Node) → find_kind (added_name now Node name) name ≡ Some Node
node_added now name (inl none) = added_here now Node name none
node_added now name (inr is) = keeps-variable now Node (Some (record { name = name; column = None })) name Node is

module _ (before after : Scope) (reads : Reads before after) where
  entries_kinded : (entries : List MapEntry) → entries_fault before entries ≡ None → All (λ e. GivesValue before e.value) (map (resolved_entry after) entries)
  entries_kinded [] good = All-nil (λ (e : MapEntry). GivesValue before e.value)
  entries_kinded (e ∷ entries) good =
      let (here, others) = first_none (value_fault before e.value) (entries_fault before entries) good in
      All-cons (λ (f : MapEntry). GivesValue before f.value) (resolved_entry after e) (map (resolved_entry after) entries)
      (gives_value before after reads e.value here) (entries_kinded entries others)

  pub map_kinded : (entries : Option (List MapEntry)) → map_fault before entries ≡ None → MapGivesValues before (resolved_map after entries)
  map_kinded None good = tt
  map_kinded (Some entries) good = entries_kinded entries good

  node_name_kinded : (creating : Bool) (now : Scope) (joined : Bool) (v : Option Variable) → Keeps (added now Node v) after → node_name_fault creating now joined v ≡ None
      → NameIsColumn after Node (resolved_name after v)
  node_name_kinded creating now joined None keeps good = tt
  node_name_kinded creating now joined (Some v) keeps good =
      reads-same after v.name Node (keeps v.name Node (node_added now v.name (node_named creating joined (find_kind now v.name) good)))

  node_kinded : (creating : Bool) (now : Scope) (linked : Bool) (n : NodePattern) → Keeps (added now Node n.variable) after → node_fault creating before now linked n ≡ None
      → NodeIsKinded before after (resolved_node after n)
  node_kinded creating now linked n keeps good =
      let (name, entries) = first_none (node_name_fault creating now (linked && is_bare n) n.variable) (map_fault before n.properties) good in
      (node_name_kinded creating now (linked && is_bare n) n.variable keeps name, map_kinded n.properties entries)

  relationship_name_kinded : (creating : Bool) (now : Scope) (kind : Kind) (v : Option Variable) → Keeps (added now kind v) after → relationship_name_fault creating before now v ≡ None
      → NameIsColumn after kind (resolved_name after v)
  relationship_name_kinded creating now kind None keeps good = tt
  relationship_name_kinded creating now kind (Some v) keeps good =
      reads-same after v.name kind (keeps v.name kind (added_here now kind v.name (relationship_named creating (is_bound before v.name) (find_kind now v.name) good)))

  relationship_kinded : (creating : Bool) (now : Scope) (r : RelationshipPattern) → Keeps (added now (relationship_kind r.length) r.variable) after
      → relationship_fault creating before now r ≡ None → RelationshipIsKinded before after (resolved_relationship after r)
  relationship_kinded creating now r keeps good =
      let made = unless (not creating || can_be_made r) BadCreate in
      let (name, others) = first_none (relationship_name_fault creating before now r.variable) (first made (map_fault before r.properties)) good in
      let (form, entries) = first_none made (map_fault before r.properties) others in
      (relationship_name_kinded creating now (relationship_kind r.length) r.variable keeps name, map_kinded r.properties entries)

  step_kinded : (creating : Bool) (now : Scope) (s : Step) → Keeps (with_step now s) after → step_fault creating before now s ≡ None → StepIsKinded before after (resolved_step after s)
  step_kinded creating now s keeps good =
      let here = added now (relationship_kind s.relationship.length) s.relationship.variable in
      let (former, latter) = first_none (relationship_fault creating before now s.relationship) (node_fault creating before here true s.node) good in (
        relationship_kinded creating now s.relationship (keeps-then here (with_step now s) after (keeps-variable here Node s.node.variable) keeps) former,
        node_kinded creating here true s.node keeps latter,
      )

  steps_kinded : (creating : Bool) (now : Scope) (steps : List Step) → Keeps (with_steps now steps) after → steps_fault creating before now steps ≡ None
      → All (StepIsKinded before after) (map (resolved_step after) steps)
  steps_kinded creating now [] keeps good = All-nil (StepIsKinded before after)
  steps_kinded creating now (s ∷ steps) keeps good =
      let (here, others) = first_none (step_fault creating before now s) (steps_fault creating before (with_step now s) steps) good in
      All-cons (StepIsKinded before after) (resolved_step after s) (map (resolved_step after) steps)
      (step_kinded creating now s (keeps-then (with_step now s) (with_steps (with_step now s) steps) after (keeps-steps (with_step now s) steps) keeps) here)
      (steps_kinded creating (with_step now s) steps keeps others)

  path_kinded : (creating : Bool) (now : Scope) (p : Path) → Keeps (with_path now p) after → path_fault creating before now p ≡ None → PathIsKinded before after (resolved_path after p)
  path_kinded creating now p keeps good =
      let here = added now Node p.start.variable in
      let (start, others) = first_none (node_fault creating before now (has_steps p.steps) p.start) (steps_fault creating before here p.steps) good in (
        node_kinded creating now (has_steps p.steps) p.start (keeps-then here (with_steps here p.steps) after (keeps-steps here p.steps) keeps) start,
        steps_kinded creating here p.steps keeps others,
      )

  pub paths_kinded : (creating : Bool) (now : Scope) (paths : List Path) → Keeps (with_paths now paths) after → paths_fault creating before now paths ≡ None
      → All (PathIsKinded before after) (map (resolved_path after) paths)
  paths_kinded creating now [] keeps good = All-nil (PathIsKinded before after)
  paths_kinded creating now (p ∷ paths) keeps good =
      let (here, others) = first_none (path_fault creating before now p) (paths_fault creating before (with_path now p) paths) good in
      All-cons (PathIsKinded before after) (resolved_path after p) (map (resolved_path after) paths)
      (path_kinded creating now p (keeps-then (with_path now p) (with_paths (with_path now p) paths) after (keeps-paths (with_path now p) paths) keeps) here)
      (paths_kinded creating (with_path now p) paths keeps others)
