use Rattle.std.proofs.Common.{◌+◌, refl, map, drop, ◌∙◌, ap}
use Rattle.std.proofs.lemmas.List.{drop_all}
use Rattle.cy_trees.specs.TreeModels.{expression_of}
use Rattle.cy_expr.specs.Evaluation.{cell_of}
use Rattle.cy_expr.specs.Graphs.{lookups}
use Rattle.cy_oneshot_patterns.specs.Outcomes.{together}
use Rattle.cy_oneshot_meaning.specs.internal.Seen.{cells_by}
use Rattle.cy_oneshot_patterns.proofs.SliceReads.{next_of}
use Rattle.cy_oneshot_meaning.proofs.Together.{finished, goes_on, goes_through, single, single_settled, together_first}
use Rattle.cy_oneshot_projections.proofs.groups.cells_on.Goals as goal

pub loop-expression-init : goal.loop-expression-init
loop-expression-init c = rw c.in_ok-cells.ensures (together_first _)

pub loop-expression-preserved : goal.loop-expression-preserved
loop-expression-preserved c =
    let graph = c.args.store.now.graph.now.content in
    let row = c.args.row.now in
    let all = c.args.expressions.now in
    let i = c.loop-expression.expression-index in
    goes_on (λ l. cells_by graph (map (λ e. expression_of e.now) l) row) (λ e. single (cell_of (lookups graph) row (expression_of e.now))) (λ x xs. refl) c.loop-expression.cells c.add.new.self _
    c.expression-item.result (drop (i + 1) all) (drop i all) (next_of all i c.expression-item.result c.loop-expression-test.true c.expression-item.is)
    (c.in_ok-add.ensures.ok ∙ ap (together c.loop-expression.cells) (single_settled c.cell_on-outcome.result _ c.cell_on-outcome.ensures c.in_ok-add.ensures.settled))
    c.loop-expression.invariant

pub returns : goal.returns
returns c =
    let graph = c.args.store.now.graph.now.content in
    let row = c.args.row.now in
    let all = c.args.expressions.now in
    finished (λ cells. cells.items) c.finish.result c.loop-expression.cells _ c.finish.ensures
    (goes_through (λ l. cells_by graph (map (λ e. expression_of e.now) l) row) (λ e. single (cell_of (lookups graph) row (expression_of e.now))) (λ x xs. refl) refl c.loop-expression.cells _
    (drop c.loop-expression.expression-index all) (drop_all c.loop-expression.expression-index all c.loop-expression-test.false) c.loop-expression.invariant)
