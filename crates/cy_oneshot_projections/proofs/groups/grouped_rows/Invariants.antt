use Rattle.std.proofs.Common.{◌≡◌, [], None, map}
use Rattle.std.specs.Vec.Iter.{into_iter_items}
use Rattle.cy_trees.specs.TreeModels.{expression_of}
use Rattle.cy_oneshot_meaning.specs.Reading.{AreInGraph}
use Rattle.cy_oneshot_meaning.specs.internal.Answers.{sifted}
use Rattle.cy_oneshot_projections.specs.internal.Grouping.{grouped_by}
use Rattle.cy_oneshot_projections.specs.internal.Keys.{grouped_of}
use Rattle.cy_oneshot_projections.proofs.groups.grouped_rows.Given as goal

-- the rows and the fault so far, and the rows that are left
abbrev pub invariant-loop-row : goal.invariant-loop-row
invariant-loop-row l =
    (sifted (map grouped_of l.grouped.items) l.fault (map (grouped_by l.store.graph.now.content (map (λ e. expression_of e.now) l.keys) (map (λ e. expression_of e.now) l.arguments)) (into_iter_items l.row-iterator))
    ≡ sifted [] None (map (grouped_by l.store.graph.now.content (map (λ e. expression_of e.now) l.keys) (map (λ e. expression_of e.now) l.arguments)) l.fn.rows.items))
    × AreInGraph l.store.graph.now.content (into_iter_items l.row-iterator)
