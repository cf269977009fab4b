-- What is done, and what the others are to become.
use Rattle.std.proofs.Common.{◌≡◌, map}
use Rattle.cy_trees.specs.TreeModels.{path_test_of}
use Rattle.cy_scope.specs.Resolved as spec
use Rattle.cy_scope_kinds.proofs.ResolvedLemmas.{mixed}
use Rattle.cy_scope.proofs.pattern_columns.resolve_tests.Given as goal

abbrev pub invariant-loop-test : goal.invariant-loop-test
invariant-loop-test l =
    mixed path_test_of (spec.resolved_path_test l.scope) l.test-index l.tests ≡ map (spec.resolved_path_test l.scope) (map path_test_of l.initial.tests)
