-- The columns of the items so far are marked.
use Rattle.std.proofs.Common.{map, take}
use Rattle.cy_trees.specs.TreeModels.{item_of}
use Rattle.cy_oneshot.specs.Carried.{AreRead}
use Rattle.cy_oneshot.specs.internal.Carried.{StillNeeded}
use Rattle.cy_oneshot.proofs.needed.mark_items.Given as goal

abbrev pub invariant-loop-item : goal.invariant-loop-item
invariant-loop-item l =
    record {
      read : AreRead l.needed.items (map item_of (take l.item-index l.items));
      still : StillNeeded l.initial.needed.items l.needed.items;
    }
