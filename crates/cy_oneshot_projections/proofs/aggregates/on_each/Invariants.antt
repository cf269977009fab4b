use Rattle.std.proofs.Common.{◌≡◌, drop, map}
use Rattle.cy_trees.specs.TreeModels.{expression_of}
use Rattle.cy_expr.specs.Evaluation.{cell_of}
use Rattle.cy_expr.specs.Graphs.{lookups}
use Rattle.cy_oneshot_patterns.specs.Outcomes.{together, gathered}
use Rattle.cy_oneshot_meaning.specs.Reading.{AreInGraph}
use Rattle.cy_oneshot_projections.proofs.aggregates.on_each.Given as goal

-- the cells so far, and those of the rows that are left
abbrev pub invariant-loop-row : goal.invariant-loop-row
invariant-loop-row l =
    (together l.cells (gathered (map (λ row. cell_of (lookups l.store.graph.now.content) row (expression_of l.expression)) (drop l.row-index l.rows)))
    ≡ gathered (map (λ row. cell_of (lookups l.store.graph.now.content) row (expression_of l.expression)) l.rows))
    × AreInGraph l.store.graph.now.content (drop l.row-index l.rows)
