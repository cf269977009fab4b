use Rattle.std.proofs.Common.{List, length, map, refl, sym, ap, ◌∙◌}
use Rattle.std.specs.Prelude.{Ok, Result}
use Rattle.std.proofs.lemmas.Simd.{map-map}
use Rattle.std.proofs.lemmas.Result.{err_from_is_err_and}
use Rattle.cy_trees.specs.Trees.{Key}
use Rattle.cy_trees.specs.TreeModels.{key_of, projection_of}
use Rattle.cy_expr.specs.declared.faults.EvalFault.{EvalFault}
use Rattle.cy_expr.specs.Faults.{on_one}
use Rattle.cy_oneshot_meaning.specs.Order.{Keyed}
use Rattle.cy_oneshot_patterns.specs.Outcomes.{gathered}
use Rattle.cy_oneshot_meaning.specs.Projection.{Projected, cut, keyed, projected}
use Rattle.cy_oneshot_meaning.specs.internal.Seen.{keyed_by, projected_of}
use Rattle.cy_oneshot_projections.specs.SortKeys.{sort_key_of}
use Rattle.cy_oneshot_projections.proofs.Failing.{fault_of_part}
use Rattle.cy_oneshot_projections.proofs.ProjectionAnswers.{cut_is}
use Rattle.cy_oneshot_projections.proofs.Projections.{after_seen}
use Rattle.cy_oneshot_projections.proofs.projection.projection_rows.Goals as goal

pub returns-in_err-seen : goal.returns-in_err-seen
returns-in_err-seen c =
    let r = err_from_is_err_and c.from_residual-in_err-seen.result c.from_residual-in_err-seen.ensures.1 in
    let graph = c.args.store.now.graph.now.content in
    let p = projection_of c.args.projection.now in
    rw (r.1, r.2)
    (fault_of_part (λ (rows : List Projected). on_one (λ ks. Ok (cut p ks)) (gathered (map (keyed graph p) rows))) (projected graph p c.args.rows.items) _ c.in_err-seen.field-0.0 refl c.in_err-seen.ensures.meant)

pub returns-in_err-keyed : goal.returns-in_err-keyed
returns-in_err-keyed c =
    let r = err_from_is_err_and c.from_residual-in_err-keyed.result c.from_residual-in_err-keyed.ensures.1 in
    let graph = c.args.store.now.graph.now.content in
    let p = projection_of c.args.projection.now in
    let width = length c.args.projection.now.items.items in
    let keys = map sort_key_of c.in_ok-keys.keys.items in
    let seen = c.in_ok-seen.seen.items in
    rw (r.1, r.2)
    (fault_of_part (λ (ks : List Keyed). Ok (cut p ks)) (gathered (map (keyed_by graph keys) (map (projected_of width) seen))) _ c.in_err-keyed.field-0.0
    (after_seen c.row_order_laws.ensures.total graph p width c.args.rows.items seen keys c.in_ok-keys.ensures c.in_ok-seen.ensures.meant)
    (rw (c.deref-2.ensures.value, c.len.ensures ∙ c.args.projection.now.items.ok.0) at c.in_err-keyed.ensures))

pub returns : goal.returns
returns c =
    let graph = c.args.store.now.graph.now.content in
    let p = projection_of c.args.projection.now in
    let width = length c.args.projection.now.items.items in
    let keys = c.in_ok-keys.keys.items in
    let seen = c.in_ok-seen.seen.items in
    after_seen c.row_order_laws.ensures.total graph p width c.args.rows.items seen (map sort_key_of keys) c.in_ok-keys.ensures c.in_ok-seen.ensures.meant
    ∙ ap (λ (o : Result (List Keyed) EvalFault). on_one (λ ks. Ok (cut p ks)) o) (rw (c.deref-2.ensures.value, c.len.ensures ∙ c.args.projection.now.items.ok.0) at c.in_ok-keyed.ensures)
    ∙ ap Ok (cut_is p c.in_ok-descending.descending.items c.in_ok-keyed.keyed.items c.sort_keyed.new.keyed.items _
    ((rw c.deref.ensures.value at c.in_ok-descending.ensures) ∙ sym (map-map (λ (k : Key). k.descending) key_of c.args.projection.now.order.items))
    (rw c.deref-3.ensures.value at c.sort_keyed.ensures) c.in_ok-cut.ensures)
