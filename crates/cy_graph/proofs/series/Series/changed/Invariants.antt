use Rattle.std.proofs.Common.{◌≡◌, ◌++◌, map}
use Rattle.std.specs.Option.{option_copied}
use Rattle.cy_graph.specs.internal.Differences.{changed_of}
use Rattle.cy_graph.proofs.series.Series.changed.Given as goal

-- what was found so far, with what is still to be found, is all
abbrev pub invariant-loop-number : goal.invariant-loop-number
invariant-loop-number g l = map (λ f. (f.0, option_copied f.1)) l.found.items ++ changed_of g.V.PartialEq.eq l.self.now l.number-iterator ≡ changed_of g.V.PartialEq.eq l.self.now l.kept.entries
