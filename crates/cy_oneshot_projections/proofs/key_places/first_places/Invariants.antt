use Rattle.std.proofs.Common.{◌≤◌, drop, length, map}
use Rattle.cy_trees.specs.TreeModels.{item_of}
use Rattle.cy_oneshot_projections.specs.internal.KeyPlaces.{AreFirst}
use Rattle.cy_oneshot_projections.proofs.key_places.first_places.Given as goal

-- the items from a place on
abbrev pub invariant-items : goal.invariant-items
invariant-items l = record {
  within : l.left ≤ length l.items;
  first : AreFirst l.places.entries (map item_of (drop l.left l.items)) l.left;
}

abbrev pub decreases-items : goal.decreases-items
decreases-items l = l.left
