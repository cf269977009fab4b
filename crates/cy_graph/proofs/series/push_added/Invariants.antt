use Rattle.std.proofs.Common.{◌≡◌, ◌++◌, map, drop}
use Rattle.std.specs.Option.{option_copied}
use Rattle.cy_graph.specs.internal.Differences.{added_of}
use Rattle.cy_graph.proofs.series.push_added.Given as goal

-- what was added so far, with what is still to be added, is all
abbrev pub invariant-loop-number : goal.invariant-loop-number
invariant-loop-number g l = map (λ f. (f.0, option_copied f.1)) l.found.items ++ added_of l.number-iterator ≡ map (λ f. (f.0, option_copied f.1)) l.initial.found.items ++ added_of (drop l.from l.slots.entries)
