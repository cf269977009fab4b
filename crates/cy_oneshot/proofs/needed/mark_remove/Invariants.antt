-- The columns of the items so far are marked.
use Rattle.std.proofs.Common.{map, take}
use Rattle.std.specs.List.{AllByRecursion}
use Rattle.cy_trees.specs.TreeModels.{remove_item_of}
use Rattle.cy_oneshot.specs.Carried.{IsRemoveRead}
use Rattle.cy_oneshot.specs.internal.Carried.{StillNeeded}
use Rattle.cy_oneshot.proofs.needed.mark_remove.Given as goal

abbrev pub invariant-loop-item : goal.invariant-loop-item
invariant-loop-item l =
    record {
      read : AllByRecursion (IsRemoveRead l.needed.items) (map remove_item_of (take l.item-index l.items));
      still : StillNeeded l.initial.needed.items l.needed.items;
    }
