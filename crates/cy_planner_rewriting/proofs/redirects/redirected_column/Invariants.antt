-- Those that are left settle the answer.
use Rattle.std.proofs.Common.{◌≡◌, drop}
use Rattle.cy_planner_rewriting.specs.internal.Redirected.{redirect}
use Rattle.cy_planner_rewriting.proofs.redirects.redirected_column.Given as goal

abbrev pub invariant-loop-other : goal.invariant-loop-other
invariant-loop-other l = redirect (drop l.other-index l.redirects) l.column ≡ redirect l.redirects l.column
