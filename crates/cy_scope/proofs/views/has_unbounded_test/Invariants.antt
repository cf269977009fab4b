-- The parts that are left settle the answer.
use Rattle.std.proofs.Common.{◌≡◌, drop, map}
use Rattle.cy_trees.specs.TreeModels.{path_test_of}
use Rattle.cy_scope.specs.Views as spec
use Rattle.cy_scope.proofs.views.has_unbounded_test.Given as goal

abbrev pub invariant-loop-test : goal.invariant-loop-test
invariant-loop-test l =
    spec.has_unbounded_test (map path_test_of (drop l.test-index l.tests)) ≡ spec.has_unbounded_test (map path_test_of l.tests)
