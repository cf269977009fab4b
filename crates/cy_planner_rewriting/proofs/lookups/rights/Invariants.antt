-- Those so far, and those of what is left.
use Rattle.std.proofs.Common.{◌≡◌, ◌++◌, drop}
use Rattle.cy_planner_rewriting.specs.internal.Lowered.{rights}
use Rattle.cy_planner_rewriting.proofs.lookups.rights.Given as goal

abbrev pub invariant-loop-lookup : goal.invariant-loop-lookup
invariant-loop-lookup l = l.made.items ++ rights l.width (drop l.lookup-index l.lookups) ≡ rights l.width l.lookups
