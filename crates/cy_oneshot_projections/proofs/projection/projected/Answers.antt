use Rattle.std.proofs.Common.{List, length, map, take, sym, ap, subst, ◌∙◌}
use Rattle.std.proofs.lemmas.List.{length-map}
use Rattle.cy_values.specs.declared.rows.Cell.{Cell}
use Rattle.cy_values.specs.Order.{row_cmp}
use Rattle.cy_trees.specs.TreeModels.{item_of, projection_of}
use Rattle.cy_oneshot_meaning.specs.Order.{each_once, in_order}
use Rattle.cy_oneshot_meaning.specs.Reading.{AreInGraph}
use Rattle.cy_oneshot_meaning.specs.internal.Seen.{projected_of}
use Rattle.cy_oneshot_projections.proofs.ProjectionAnswers.{distinct_answer}
use Rattle.cy_oneshot_projections.proofs.Projections.{plain_seen}
use Rattle.cy_oneshot_projections.proofs.RowsThere.{once_there}
use Rattle.cy_oneshot_projections.proofs.projection.projected.Goals as goal

pub returns-in_ok-rows-clause-meant : goal.returns-in_ok-rows-clause-meant
returns-in_ok-rows-clause-meant c =
    let projection = c.args.projection.now in
    let seen = c.in_ok-seen.seen.items in
    let width = c.len.ensures ∙ projection.items.ok.0 in
    distinct_answer c.row_order_laws.ensures.total c.args.store.now.graph.now.content (projection_of projection) (length projection.items.items) c.args.rows.items seen c.sort_rows_once.new.rows.items
    (length-map projection.items.items item_of) c.if-projection.true c.in_ok-seen.ensures.meant
    (c.sort_rows_once.ensures ∙ ap (λ (l : List (List Cell)). in_order row_cmp (each_once row_cmp l)) (c.in_ok-rows.ensures ∙ ap (λ n. map (take n) seen) width))

pub returns-in_ok-rows-clause-there : goal.returns-in_ok-rows-clause-there
returns-in_ok-rows-clause-there c =
    let graph = c.args.store.now.graph.now.content in
    let seen = c.in_ok-seen.seen.items in
    subst (λ (l : List (List Cell)). AreInGraph graph l)
    (sym (c.sort_rows_once.ensures ∙ ap (λ (l : List (List Cell)). in_order row_cmp (each_once row_cmp l)) c.in_ok-rows.ensures)) (once_there graph c.len.result seen c.in_ok-seen.ensures.there)

pub returns-else-projection-clause-meant : goal.returns-else-projection-clause-meant
returns-else-projection-clause-meant c =
    let projection = c.args.projection.now in
    plain_seen c.row_order_laws.ensures.total c.args.store.now.graph.now.content (projection_of projection) c.args.rows.items (map (projected_of (length projection.items.items)) c.in_ok-seen.seen.items)
    c.if-projection.false c.in_ok-seen.ensures.meant
