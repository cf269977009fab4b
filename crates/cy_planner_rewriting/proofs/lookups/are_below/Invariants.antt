-- The look-ups so far are inside, if the others are.
use Rattle.std.proofs.Common.{◌<◌, drop}
use Rattle.std.specs.List.{AllByRecursion}
use Rattle.cy_planner_rewriting.proofs.lookups.are_below.Given as goal

abbrev pub invariant-loop-lookup : goal.invariant-loop-lookup
invariant-loop-lookup l = AllByRecursion (λ w. w.column < l.width) (drop l.lookup-index l.lookups) → AllByRecursion (λ w. w.column < l.width) l.lookups
