-- Those so far are divided, and the others are left, the next one last.
use Rattle.std.proofs.Common.{vec_len}
use Rattle.cy_planner_pushdown.specs.internal.Sifting.{AreDivided}
use Rattle.cy_planner_pushdown.specs.internal.Tests.{tests_of}
use Rattle.cy_planner_pushdown.proofs.sifting.at_ends_of.Given as goal

abbrev pub invariant-loop-test : goal.invariant-loop-test
invariant-loop-test l = AreDivided (tests_of l.fn.tests.items) (tests_of l.rest.items) (tests_of l.asked.items) (tests_of l.others.items)

abbrev pub decreases-loop-test : goal.decreases-loop-test
decreases-loop-test l = vec_len l.rest
