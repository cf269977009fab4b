-- The columns so far that stand after this many are marked.
use Rattle.std.proofs.Common.{take}
use Rattle.cy_oneshot.specs.Carried.{AreSeen}
use Rattle.cy_oneshot.specs.internal.Carried.{StillNeeded}
use Rattle.cy_oneshot.proofs.needed.mark_seen.Given as goal

abbrev pub invariant-loop-column : goal.invariant-loop-column
invariant-loop-column l =
    record {
      read : AreSeen l.needed.items l.count (take l.column-index l.columns);
      still : StillNeeded l.initial.needed.items l.needed.items;
    }
