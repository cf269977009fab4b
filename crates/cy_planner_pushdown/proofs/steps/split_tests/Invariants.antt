-- Those so far are split, and the others are left, the next one last.
use Rattle.std.proofs.Common.{vec_len}
use Rattle.cy_planner_algebra.specs.PlanModels.{plan_of}
use Rattle.cy_planner_pushdown.specs.internal.Splits.{IsSplit, tests_in}
use Rattle.cy_planner_pushdown.specs.internal.Tests.{tests_of}
use Rattle.cy_planner_pushdown.proofs.steps.split_tests.Given as goal

abbrev pub invariant-loop-test : goal.invariant-loop-test
invariant-loop-test l = IsSplit (plan_of l.part) (tests_of l.fn.tests.items) (tests_of l.rest.items) (tests_in l.split)

abbrev pub decreases-loop-test : goal.decreases-loop-test
decreases-loop-test l = vec_len l.rest
