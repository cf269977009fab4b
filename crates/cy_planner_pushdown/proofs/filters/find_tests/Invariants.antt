-- Those so far are looked through, and the others wait, the next one last.
use Rattle.std.proofs.Common.{map, vec_len}
use Rattle.cy_trees.specs.TreeModels.{expression_of}
use Rattle.cy_planner_algebra.specs.PlanModels.{plan_of}
use Rattle.cy_planner_pushdown.specs.internal.Finding.{AreFound}
use Rattle.cy_planner_pushdown.specs.internal.Tests.{tests_of}
use Rattle.cy_planner_pushdown.proofs.filters.find_tests.Given as goal

abbrev pub invariant-loop-test : goal.invariant-loop-test
invariant-loop-test l =
    AreFound l.before (plan_of l.below) (map expression_of l.fn.tests.items) (map expression_of l.waiting.items) (tests_of l.found.items) (map expression_of l.rest.items)

abbrev pub decreases-loop-test : goal.decreases-loop-test
decreases-loop-test l = vec_len l.waiting
