-- The sum so far.
use Rattle.std.proofs.Common.{◌≡◌, map, min, take}
use Rattle.std.specs.Prelude.{sum_by}
use Rattle.cy_trees.specs.TreeModels.{path_test_of}
use Rattle.cy_planner.specs.Weight as spec
use Rattle.cy_planner.proofs.weight.path_tests_weight.Given as goal

abbrev pub invariant-loop-test : goal.invariant-loop-test
invariant-loop-test l = l.total ≡ min (sum_by spec.path_test_weight (map path_test_of (take l.test-index l.tests))) 18446744073709551615
