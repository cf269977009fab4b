-- What stands after WHERE without a fault, with the columns of its variables: the condition gives a value, and the paths name columns
-- of nodes alone.
use Rattle.std.proofs.Common.{◌≡◌, List, [], ◌∷◌, map, Option, Some, None, if◌then◌else◌, refl, sym, ap, ◌∙◌}
use Rattle.std.specs.List.{All}
use Rattle.std.proofs.lemmas.List.Elements.{All-nil, All-cons}
use Rattle.std.proofs.lemmas.Option.{none-some}
use Rattle.cy_trees.specs.declared.expressions.Variable.{Variable}
use Rattle.cy_trees.specs.Trees.{Expression, NodePattern, RelationshipPattern, Step, Path, PathTest, Where}
use Rattle.cy_scope_kinds.specs.declared.kinds.Kind.{Kind}
use Rattle.cy_scope_kinds.specs.declared.kinds.Kind.TheVariants.{Node}
use Rattle.cy_scope_kinds.specs.declared.faults.ScopeFault.TheVariants.{UnknownVariable, AlreadyBound, WrongKind}
use Rattle.cy_scope_kinds.specs.Kinds.{is_node}
use Rattle.cy_scope_kinds.specs.Faults.{first_fault}
use Rattle.cy_scope_kinds.specs.Scopes.{Scope, find_kind, is_bound}
use Rattle.cy_scope_kinds.specs.Kinded.{IsColumn}
use Rattle.cy_scope.specs.PatternFaults.{map_fault}
use Rattle.cy_scope.specs.ConditionFaults.{condition_fault, node_only_fault, tested_node_name_fault, tested_relationship_name_fault, tested_node_fault, tested_relationship_fault, tested_step_fault, tested_path_fault, path_tests_fault, where_fault}
use Rattle.cy_scope.specs.Resolved.{resolved_variable, resolved_name, resolved_node, resolved_relationship, resolved_step, resolved_path, resolved_condition, resolved_path_test, resolved_where}
use Rattle.cy_scope.specs.Checked.{NameIsColumn, NodeIsKinded, FilterGivesValue, RelationshipIsTested, StepIsTested, PathIsTested, WhereGivesValue}
use Rattle.cy_scope.proofs.Columns.{reads-same}
use Rattle.cy_scope.proofs.KindedExpressions.{first_none, unless_none, node_is, gives_value}
use Rattle.cy_scope.proofs.KindedPatterns.{map_kinded}

module _ (scope : Scope) where
  condition_in : (test : Option Expression) → condition_fault scope test ≡ None → FilterGivesValue scope (resolved_condition scope test)
  condition_in None good = tt
  condition_in (Some e) good = gives_value scope scope (reads-same scope) e good

  pub node_only_kinded : (v : Variable) (o : Option Kind) → find_kind scope v.name ≡ o → node_only_fault o ≡ None → IsColumn scope (resolved_variable scope v) Node
  node_only_kinded v None is good = absurd (none-some UnknownVariable (sym good))
  node_only_kinded v (Some k) is good = reads-same scope v.name Node (is ∙ ap (λ (l : Kind). Some l) (node_is k (unless_none (is_node k) WrongKind good)))

  node_name_tested : (v : Option Variable) → tested_node_name_fault scope v ≡ None → NameIsColumn scope Node (resolved_name scope v)
  node_name_tested None good = tt
  node_name_tested (Some v) good = node_only_kinded v (find_kind scope v.name) refl good

  node_tested : (n : NodePattern) → tested_node_fault scope n ≡ None → NodeIsKinded scope scope (resolved_node scope n)
  node_tested n good =
      let (name, entries) = first_none (tested_node_name_fault scope n.variable) (map_fault scope n.properties) good in
      (node_name_tested n.variable name, map_kinded scope scope (reads-same scope) n.properties entries)

  unnamed : (v : Option Variable) → tested_relationship_name_fault scope v ≡ None → resolved_name scope v ≡ None
  unnamed None good = refl
  unnamed (Some v) good = absurd (none-some (if is_bound scope v.name then AlreadyBound else UnknownVariable) (sym good))

  relationship_tested : (r : RelationshipPattern) → tested_relationship_fault scope r ≡ None → RelationshipIsTested scope (resolved_relationship scope r)
  relationship_tested r good =
      let (name, entries) = first_none (tested_relationship_name_fault scope r.variable) (map_fault scope r.properties) good in
      (unnamed r.variable name, map_kinded scope scope (reads-same scope) r.properties entries)

  step_tested : (s : Step) → tested_step_fault scope s ≡ None → StepIsTested scope (resolved_step scope s)
  step_tested s good =
      let (former, latter) = first_none (tested_relationship_fault scope s.relationship) (tested_node_fault scope s.node) good in
      (relationship_tested s.relationship former, node_tested s.node latter)

  steps_tested : (steps : List Step) → first_fault (tested_step_fault scope) steps ≡ None → All (StepIsTested scope) (map (resolved_step scope) steps)
  steps_tested [] good = All-nil (StepIsTested scope)
  steps_tested (s ∷ steps) good =
      let (here, others) = first_none (tested_step_fault scope s) (first_fault (tested_step_fault scope) steps) good in
      All-cons (StepIsTested scope) (resolved_step scope s) (map (resolved_step scope) steps) (step_tested s here) (steps_tested steps others)

  path_tested : (p : Path) → tested_path_fault scope p ≡ None → PathIsTested scope (resolved_path scope p)
  path_tested p good =
      let (start, others) = first_none (tested_node_fault scope p.start) (first_fault (tested_step_fault scope) p.steps) good in
      (node_tested p.start start, steps_tested p.steps others)

  tests_tested : (tests : List PathTest) → path_tests_fault scope tests ≡ None → All (λ t. PathIsTested scope t.path) (map (resolved_path_test scope) tests)
  tests_tested [] good = All-nil (λ (t : PathTest). PathIsTested scope t.path)
  tests_tested (t ∷ tests) good =
      let (here, others) = first_none (tested_path_fault scope t.path) (path_tests_fault scope tests) good in
      All-cons (λ (u : PathTest). PathIsTested scope u.path) (resolved_path_test scope t) (map (resolved_path_test scope) tests) (path_tested t.path here) (tests_tested tests others)

  pub where_in : (w : Where) → where_fault scope w ≡ None → WhereGivesValue scope (resolved_where scope w)
  where_in w good =
      let (test, paths) = first_none (condition_fault scope w.test) (path_tests_fault scope w.paths) good in
      (condition_in w.test test, tests_tested w.paths paths)
