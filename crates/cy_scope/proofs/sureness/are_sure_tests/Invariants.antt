-- The parts that are left settle the answer.
use Rattle.std.proofs.Common.{◌≡◌, drop, map}
use Rattle.cy_trees.specs.TreeModels.{path_test_of}
use Rattle.cy_scope.specs.Views as spec
use Rattle.cy_scope.proofs.sureness.are_sure_tests.Given as goal

abbrev pub invariant-loop-test : goal.invariant-loop-test
invariant-loop-test l =
    spec.are_sure_tests l.scope (map path_test_of (drop l.test-index l.tests)) ≡ spec.are_sure_tests l.scope (map path_test_of l.tests)
