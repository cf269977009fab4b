-- What is left above the plan so far can stand in place of all above the base.
use Rattle.std.proofs.Common.{vec_len}
use Rattle.cy_planner_rewriting.specs.Rewritten.{IsRewritten}
use Rattle.cy_planner_rewriting.specs.internal.NarrowAbove.{over_all}
use Rattle.cy_planner_rewriting.specs.internal.Narrows.{restored}
use Rattle.cy_planner_rewriting.proofs.narrowing.put_over.Given as goal

abbrev pub invariant-loop-next : goal.invariant-loop-next
invariant-loop-next l = IsRewritten (over_all l.fn.above.items (restored l.fn.base)) (over_all l.above.items (restored l.narrow))

abbrev pub decreases-loop-next : goal.decreases-loop-next
decreases-loop-next l = vec_len l.above
