-- The conditions stay the same.
use Rattle.std.proofs.Common.{◌≡◌, vec_len}
use Rattle.cy_planner_rows.specs.internal.Conjuncts.{all_conjuncts}
use Rattle.cy_planner_rows.proofs.conjunctions.all_of.Given as goal

abbrev pub invariant-loop-alloc : goal.invariant-loop-alloc
invariant-loop-alloc l = all_conjuncts l.tests.items ≡ all_conjuncts l.fn.tests.items

abbrev pub decreases-loop-alloc : goal.decreases-loop-alloc
decreases-loop-alloc l = vec_len l.tests
