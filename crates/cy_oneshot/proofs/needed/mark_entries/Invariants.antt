-- The columns of the entries so far are marked.
use Rattle.std.proofs.Common.{map, take}
use Rattle.cy_trees.specs.TreeModels.{entry_of}
use Rattle.cy_oneshot.specs.Carried.{AreEntriesRead}
use Rattle.cy_oneshot.specs.internal.Carried.{StillNeeded}
use Rattle.cy_oneshot.proofs.needed.mark_entries.Given as goal

abbrev pub invariant-loop-entry : goal.invariant-loop-entry
invariant-loop-entry l =
    record {
      read : AreEntriesRead l.needed.items (map entry_of (take l.entry-index l.entries));
      still : StillNeeded l.initial.needed.items l.needed.items;
    }
