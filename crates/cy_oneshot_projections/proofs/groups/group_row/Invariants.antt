use Rattle.std.proofs.Common.{◌≡◌, drop, map}
use Rattle.std.specs.Vec.Iter.{into_iter_items}
use Rattle.cy_trees.specs.TreeModels.{item_of}
use Rattle.cy_oneshot_meaning.specs.Groups.{group_cells}
use Rattle.cy_oneshot_patterns.specs.Outcomes.{together, gathered}
use Rattle.cy_oneshot_projections.proofs.groups.group_row.Given as goal

-- the cells so far, and those of the items that are left
abbrev pub invariant-loop-item : goal.invariant-loop-item
invariant-loop-item l =
    together l.cells (gathered (group_cells l.store.graph.now.content (map item_of (drop l.item-index l.items)) (into_iter_items l.key) l.rows.items))
    ≡ gathered (group_cells l.store.graph.now.content (map item_of l.items) l.fn.group.key l.rows.items)
