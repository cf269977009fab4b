-- The paths that are left settle the fault.
use Rattle.std.proofs.Common.{◌≡◌, drop, map}
use Rattle.cy_trees.specs.TreeModels.{path_test_of}
use Rattle.cy_scope.specs.ConditionFaults as spec
use Rattle.cy_scope.proofs.condition_checks.check_tests.Given as goal

abbrev pub invariant-loop-test : goal.invariant-loop-test
invariant-loop-test l =
    spec.path_tests_fault l.scope (map path_test_of (drop l.test-index l.tests)) ≡ spec.path_tests_fault l.scope (map path_test_of l.tests)
