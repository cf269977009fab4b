-- Those so far are put on the plan, and the others are left.
use Rattle.std.proofs.Common.{vec_len}
use Rattle.cy_planner_algebra.specs.PlanModels.{plan_of}
use Rattle.cy_planner_pushdown.specs.internal.Sifting.{ArePartlyPut}
use Rattle.cy_planner_pushdown.specs.internal.Tests.{tests_of}
use Rattle.cy_planner_pushdown.proofs.sifting.filter_each.Given as goal

abbrev pub invariant-loop-test : goal.invariant-loop-test
invariant-loop-test l = ArePartlyPut (plan_of l.fn.below) (tests_of l.fn.tests.items) (tests_of l.rest.items) (plan_of l.plan)

abbrev pub decreases-loop-test : goal.decreases-loop-test
decreases-loop-test l = vec_len l.rest
