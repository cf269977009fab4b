-- Those so far, and those of what is left.
use Rattle.std.proofs.Common.{◌≡◌, ◌++◌, drop}
use Rattle.cy_planner_rewriting.specs.internal.Lowered.{lefts}
use Rattle.cy_planner_rewriting.proofs.lookups.lefts.Given as goal

abbrev pub invariant-loop-lookup : goal.invariant-loop-lookup
invariant-loop-lookup l = l.made.items ++ lefts l.width (drop l.lookup-index l.lookups) ≡ lefts l.width l.lookups
