-- Those so far are parted, and the others are left.
use Rattle.std.proofs.Common.{◌+◌, ◌≤◌, [], ◌∷◌, ◌++◌, length, vec_len}
use Rattle.cy_planner_pushdown.specs.internal.Sifting.{AreParted}
use Rattle.cy_planner_pushdown.specs.internal.Tests.{test_of, tests_of}
use Rattle.cy_planner_pushdown.proofs.sifting.part_by_column.Given as goal

abbrev pub invariant-loop-test : goal.invariant-loop-test
invariant-loop-test l =
    AreParted l.column (tests_of l.fn.rest.items ++ test_of l.fn.first ∷ []) (tests_of l.rest.items) (tests_of l.alone.items) (tests_of l.others.items)
    × (length l.others.items + length l.rest.items ≤ length l.fn.rest.items)

abbrev pub decreases-loop-test : goal.decreases-loop-test
decreases-loop-test l = vec_len l.rest
