use Rattle.std.proofs.Common.{◌≡◌, map}
use Rattle.std.specs.Vec.Iter.{into_iter_items}
use Rattle.cy_trees.specs.TreeModels.{expression_of}
use Rattle.cy_oneshot_patterns.specs.Outcomes.{together, gathered}
use Rattle.cy_oneshot_meaning.specs.Reading.{AreInGraph}
use Rattle.cy_oneshot_meaning.specs.internal.Seen.{seen_by}
use Rattle.cy_oneshot_projections.proofs.projection.project_each.Given as goal

-- the rows so far, and those that are left
abbrev pub invariant-loop-row : goal.invariant-loop-row
invariant-loop-row l =
    (together l.seen (gathered (map (seen_by l.store.graph.now.content (map (λ e. expression_of e.now) l.expressions.items)) (into_iter_items l.row-iterator)))
    ≡ gathered (map (seen_by l.store.graph.now.content (map (λ e. expression_of e.now) l.expressions.items)) l.fn.rows.items))
    × AreInGraph l.store.graph.now.content (into_iter_items l.row-iterator)
