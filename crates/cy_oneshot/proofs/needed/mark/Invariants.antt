-- The columns so far are marked.
use Rattle.std.proofs.Common.{take}
use Rattle.cy_oneshot.specs.Carried.{AreNeeded}
use Rattle.cy_oneshot.specs.internal.Carried.{StillNeeded}
use Rattle.cy_oneshot.proofs.needed.mark.Given as goal

abbrev pub invariant-loop-column : goal.invariant-loop-column
invariant-loop-column l =
    record {
      read : AreNeeded l.needed.items (take l.column-index l.columns);
      still : StillNeeded l.initial.needed.items l.needed.items;
    }
