use Rattle.std.proofs.Common.{◌≡◌, drop, map}
use Rattle.cy_trees.specs.TreeModels.{expression_of}
use Rattle.cy_oneshot_patterns.specs.Outcomes.{together}
use Rattle.cy_oneshot_meaning.specs.internal.Seen.{cells_by}
use Rattle.cy_oneshot_projections.proofs.groups.cells_on.Given as goal

-- the cells so far, and those of the expressions that are left
abbrev pub invariant-loop-expression : goal.invariant-loop-expression
invariant-loop-expression l =
    together l.cells (cells_by l.store.graph.now.content (map (λ e. expression_of e.now) (drop l.expression-index l.expressions)) l.row)
    ≡ cells_by l.store.graph.now.content (map (λ e. expression_of e.now) l.expressions) l.row
