use Rattle.std.proofs.Common.{map, sym, ◌∙◌}
use Rattle.std.proofs.lemmas.List.{length-map}
use Rattle.cy_trees.specs.TreeModels.{item_of, projection_of}
use Rattle.cy_oneshot_projections.proofs.ProjectionAnswers.{groups_answer, rows_answer}
use Rattle.cy_oneshot_projections.proofs.RowsThere.{groups_answer_there}
use Rattle.cy_oneshot_projections.proofs.projection.item_rows.Goals as goal

pub returns-then-has_aggregates-clause-meant : goal.returns-then-has_aggregates-clause-meant
returns-then-has_aggregates-clause-meant c =
    let projection = c.args.projection.now in
    groups_answer c.args.store.now.graph.now.content (projection_of projection) (λ made. made.items) _ c.args.rows.items c.aggregated.result (length-map projection.items.items item_of)
    (sym c.has_aggregates.ensures ∙ c.if-has_aggregates.true) (rw c.deref.ensures.value at c.aggregated.ensures)

pub returns-then-has_aggregates-clause-there : goal.returns-then-has_aggregates-clause-there
returns-then-has_aggregates-clause-there c =
    groups_answer_there c.args.store.now.graph.now.content (λ made. made.items) (map item_of c.args.projection.now.items.items) c.args.rows.items c.aggregated.result c.requires
    (rw c.deref.ensures.value at c.aggregated.ensures)

pub returns-else-has_aggregates-clause-meant : goal.returns-else-has_aggregates-clause-meant
returns-else-has_aggregates-clause-meant c =
    let projection = c.args.projection.now in
    rows_answer c.args.store.now.graph.now.content (projection_of projection) (λ seen. seen.items) _ c.args.rows.items c.project_each.result (length-map projection.items.items item_of)
    (sym c.has_aggregates.ensures ∙ c.if-has_aggregates.false) (rw c.deref-else-has_aggregates.ensures.value at c.project_each.ensures.meant)
