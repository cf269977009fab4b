-- The conditions that were found, and those in the trees that wait.
use Rattle.std.proofs.Common.{◌≡◌, ◌++◌, map}
use Rattle.cy_trees.specs.TreeModels.{expression_of}
use Rattle.cy_planner_rows.specs.internal.Conjuncts.{conjuncts}
use Rattle.cy_planner_rows.specs.internal.Opened.{steps_left, waiting}
use Rattle.cy_planner_rows.proofs.conjunctions.conjuncts.Given as goal

abbrev pub invariant-loop-test : goal.invariant-loop-test
invariant-loop-test l = map expression_of l.found.items ++ waiting l.tests.items ≡ conjuncts (expression_of l.fn.test)

abbrev pub decreases-loop-test : goal.decreases-loop-test
decreases-loop-test l = steps_left l.tests.items
