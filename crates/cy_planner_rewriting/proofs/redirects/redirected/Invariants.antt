-- The look-ups so far.
use Rattle.std.proofs.Common.{◌≡◌, map, take}
use Rattle.cy_planner_rewriting.specs.internal.Redirected.{redirected}
use Rattle.cy_planner_rewriting.proofs.redirects.redirected.Given as goal

abbrev pub invariant-loop-lookup : goal.invariant-loop-lookup
invariant-loop-lookup l = l.made.items ≡ map (redirected l.redirects) (take l.lookup-index l.lookups)
