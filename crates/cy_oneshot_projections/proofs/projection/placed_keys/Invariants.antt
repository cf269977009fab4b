use Rattle.std.proofs.Common.{◌≡◌, map, take}
use Rattle.cy_trees.specs.TreeModels.{item_of, key_of}
use Rattle.cy_oneshot_meaning.specs.Projection.{item_of_key}
use Rattle.cy_oneshot_projections.specs.SortKeys.{sort_key_of}
use Rattle.cy_oneshot_projections.proofs.projection.placed_keys.Given as goal

-- the keys so far
abbrev pub invariant-loop-key : goal.invariant-loop-key
invariant-loop-key l =
    map sort_key_of l.keys.items ≡ map (λ k. (item_of_key (map item_of l.projection.items.items) (key_of k), key_of k)) (take l.key-index l.projection.order.items)
