use Rattle.std.proofs.Common.{◌+◌, refl, List, map, drop, subst, ◌∙◌, ap}
use Rattle.std.proofs.lemmas.List.{drop_all}
use Rattle.cy_values.specs.declared.rows.Cell.{Cell}
use Rattle.cy_trees.specs.TreeModels.{expression_of}
use Rattle.cy_expr.specs.Evaluation.{cell_of}
use Rattle.cy_expr.specs.Graphs.{lookups}
use Rattle.cy_oneshot_patterns.specs.Outcomes.{together, gathered}
use Rattle.cy_oneshot_meaning.specs.Reading.{AreInGraph}
use Rattle.cy_oneshot_patterns.proofs.SliceReads.{next_of}
use Rattle.cy_oneshot_meaning.proofs.Together.{finished, goes_on, goes_through, single, single_settled, together_first}
use Rattle.cy_oneshot_projections.proofs.aggregates.on_each.Goals as goal

pub loop-row-init : goal.loop-row-init
loop-row-init c = rw c.in_ok-cells.ensures (together_first _, c.requires)

pub cell_on-outcome-requires : goal.cell_on-outcome-requires
cell_on-outcome-requires c =
    (subst (λ (l : List (List Cell)). AreInGraph c.args.store.now.graph.now.content l) (next_of c.args.rows.now c.loop-row.row-index c.row-item.result c.loop-row-test.true c.row-item.is) c.loop-row.invariant.1).0

pub loop-row-preserved : goal.loop-row-preserved
loop-row-preserved c =
    let graph = c.args.store.now.graph.now.content in
    let all = c.args.rows.now in
    let i = c.loop-row.row-index in
    let next = next_of all i c.row-item.result c.loop-row-test.true c.row-item.is in
    let of = λ (row : List Cell). cell_of (lookups graph) row (expression_of c.args.expression.now) in (
      goes_on (λ l. gathered (map of l)) (λ row. single (of row)) (λ x xs. refl) c.loop-row.cells c.add.new.self _ c.row-item.result (drop (i + 1) all) (drop i all) next
          (c.in_ok-add.ensures.ok ∙ ap (together c.loop-row.cells) (single_settled c.cell_on-outcome.result _ c.cell_on-outcome.ensures c.in_ok-add.ensures.settled))
          c.loop-row.invariant.0,
      (subst (λ (l : List (List Cell)). AreInGraph graph l) next c.loop-row.invariant.1).1,
    )

pub returns : goal.returns
returns c =
    let all = c.args.rows.now in
    let of = λ (row : List Cell). cell_of (lookups c.args.store.now.graph.now.content) row (expression_of c.args.expression.now) in
    finished (λ cells. cells.items) c.finish.result c.loop-row.cells _ c.finish.ensures
    (goes_through (λ l. gathered (map of l)) (λ row. single (of row)) (λ x xs. refl) refl c.loop-row.cells _ (drop c.loop-row.row-index all) (drop_all c.loop-row.row-index all c.loop-row-test.false) c.loop-row.invariant.0)
