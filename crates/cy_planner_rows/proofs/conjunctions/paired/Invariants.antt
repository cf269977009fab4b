-- The conditions that were made, and those that wait.
use Rattle.std.proofs.Common.{◌≡◌, ◌++◌, length, vec_len}
use Rattle.cy_planner_rows.specs.internal.Conjuncts.{all_conjuncts}
use Rattle.cy_planner_rows.specs.internal.Opened.{AreFewer, waiting}
use Rattle.cy_planner_rows.proofs.conjunctions.paired.Given as goal

abbrev pub invariant-loop-first : goal.invariant-loop-first
invariant-loop-first l =
    (all_conjuncts l.made.items ++ waiting l.tests.items ≡ all_conjuncts l.fn.tests.items)
    × AreFewer (length l.fn.tests.items) (length l.made.items) (length l.tests.items)

abbrev pub decreases-loop-first : goal.decreases-loop-first
decreases-loop-first l = vec_len l.tests
