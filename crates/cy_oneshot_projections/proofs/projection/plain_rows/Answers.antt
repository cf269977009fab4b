use Rattle.std.proofs.Common.{List, length, map, take, refl, sym, ap, subst, ◌∙◌}
use Rattle.std.specs.Prelude.{Ok}
use Rattle.std.proofs.lemmas.Result.{err_from_is_err_and}
use Rattle.cy_values.specs.declared.rows.Cell.{Cell}
use Rattle.cy_trees.specs.TreeModels.{key_of, projection_of}
use Rattle.cy_expr.specs.Faults.{on_one}
use Rattle.cy_oneshot_meaning.specs.internal.Permuted.{Alike}
use Rattle.cy_oneshot_patterns.specs.Outcomes.{gathered}
use Rattle.cy_oneshot_meaning.specs.Projection.{Projected, cut, keyed, projected, projection_rows}
use Rattle.cy_oneshot_projections.proofs.Failing.{fault_of_part}
use Rattle.cy_oneshot_projections.proofs.Unordered.{plain_meant}
use Rattle.cy_oneshot_projections.proofs.projection.plain_rows.Goals as goal

pub returns-in_err-seen : goal.returns-in_err-seen
returns-in_err-seen c =
    let r = err_from_is_err_and c.from_residual.result c.from_residual.ensures.1 in
    let graph = c.args.store.now.graph.now.content in
    let p = projection_of c.args.projection.now in
    rw (r.1, r.2)
    (fault_of_part (λ (rows : List Projected). on_one (λ ks. Ok (cut p ks)) (gathered (map (keyed graph p) rows))) (projected graph p c.args.rows.items) _ c.in_err-seen.field-0.0 refl c.in_err-seen.ensures.meant)

pub returns : goal.returns
returns c =
    let graph = c.args.store.now.graph.now.content in
    let projection = c.args.projection.now in
    let p = projection_of projection in
    let seen = c.in_ok-seen.seen.items in
    subst (λ (l : List (List Cell)). Alike (Ok l) (projection_rows graph p c.args.rows.items)) (sym (c.in_ok-made.ensures ∙ ap (λ n. map (take n) seen) (c.len.ensures ∙ projection.items.ok.0)))
    (plain_meant graph p (ap (map key_of) c.requires.order) c.requires.skip c.requires.limit (length projection.items.items) c.args.rows.items seen c.in_ok-seen.ensures.meant)
