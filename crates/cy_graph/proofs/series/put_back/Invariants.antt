use Rattle.std.proofs.Common.{◌≡◌, length}
use Rattle.cy_graph.specs.Graph.{number_end}
use Rattle.cy_graph.specs.internal.Slots.{RiseFrom, restored}
use Rattle.cy_graph.proofs.series.put_back.Given as goal

-- what is still kept, put back into the slots as they are, gives what all of it did at the start
abbrev pub invariant-loop-number : goal.invariant-loop-number
invariant-loop-number g l = record {
  same : restored l.before.entries l.slots.entries ≡ restored l.initial.before.entries l.initial.slots.entries;
  rising : RiseFrom 1 number_end l.slots.entries;
}

abbrev pub decreases-loop-number : goal.decreases-loop-number
decreases-loop-number g l = length l.before.entries
