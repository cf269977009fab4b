-- The rows so far have the same cells in what isn't needed.
use Rattle.std.proofs.Common.{take}
use Rattle.std.specs.List.{AllByRecursion}
use Rattle.cy_oneshot.specs.Carried.{IsAlike}
use Rattle.cy_oneshot.specs.internal.Carried.{StillNeeded}
use Rattle.cy_oneshot.proofs.needed.mark_others.Given as goal

abbrev pub invariant-loop-row : goal.invariant-loop-row
invariant-loop-row l =
    record {
      alike : AllByRecursion (IsAlike l.needed.items l.first) (take l.row-index l.rows);
      still : StillNeeded l.initial.needed.items l.needed.items;
    }
