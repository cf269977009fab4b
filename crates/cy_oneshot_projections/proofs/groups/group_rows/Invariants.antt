use Rattle.std.proofs.Common.{◌≡◌, map}
use Rattle.std.specs.List.{AllByRecursion}
use Rattle.std.specs.Vec.Iter.{into_iter_items}
use Rattle.cy_trees.specs.TreeModels.{item_of}
use Rattle.cy_oneshot_meaning.specs.Groups.{group_cells}
use Rattle.cy_oneshot_patterns.specs.Outcomes.{together, gathered}
use Rattle.cy_oneshot_meaning.specs.Reading.{AreInGraph}
use Rattle.cy_oneshot_projections.specs.internal.Keys.{group_of}
use Rattle.cy_oneshot_projections.proofs.groups.group_rows.Given as goal

-- the rows so far, and those of the groups that are left
abbrev pub invariant-loop-group : goal.invariant-loop-group
invariant-loop-group l =
    (together l.made (gathered (map (λ g. gathered (group_cells l.store.graph.now.content (map item_of l.items) g.key g.rows)) (map group_of (into_iter_items l.group-iterator))))
    ≡ gathered (map (λ g. gathered (group_cells l.store.graph.now.content (map item_of l.items) g.key g.rows)) (map group_of l.fn.groups.items)))
    × AllByRecursion (λ g. AreInGraph l.store.graph.now.content g.rows.items) (into_iter_items l.group-iterator)
