-- The columns of the keys so far are marked.
use Rattle.std.proofs.Common.{map, take}
use Rattle.cy_oneshot_projections.specs.SortKeys.{sort_key_of}
use Rattle.cy_oneshot.specs.Carried.{AreKeysRead}
use Rattle.cy_oneshot.specs.internal.Carried.{StillNeeded}
use Rattle.cy_oneshot.proofs.needed.mark_keys.Given as goal

abbrev pub invariant-loop-key : goal.invariant-loop-key
invariant-loop-key l =
    record {
      read : AreKeysRead l.needed.items l.count (map sort_key_of (take l.key-index l.keys));
      still : StillNeeded l.initial.needed.items l.needed.items;
    }
