use Rattle.std.proofs.Common.{◌+◌, inl, refl, List, map, drop, take, sym, ◌∙◌, ap}
use Rattle.std.specs.Prelude.{Ok, Result}
use Rattle.std.proofs.lemmas.List.{drop_all}
use Rattle.std.proofs.lemmas.Result.{err_from_is_err_and}
use Rattle.cy_values.specs.declared.rows.Cell.{Cell}
use Rattle.cy_expr.specs.declared.faults.EvalFault.{EvalFault}
use Rattle.cy_expr.specs.Faults.{on_one}
use Rattle.cy_oneshot_projections.specs.declared.projection.SortKey.{SortKey}
use Rattle.cy_oneshot_meaning.specs.Order.{Keyed}
use Rattle.cy_oneshot_patterns.specs.Outcomes.{together, gathered}
use Rattle.cy_oneshot_meaning.specs.Projection.{key_cell}
use Rattle.cy_oneshot_meaning.specs.internal.Seen.{projected_of}
use Rattle.cy_oneshot_projections.specs.SortKeys.{sort_key_of}
use Rattle.cy_oneshot_projections.proofs.Failing.{fault_of_part}
use Rattle.cy_oneshot_patterns.proofs.SliceReads.{next_of}
use Rattle.cy_oneshot_meaning.proofs.Together.{goes_on, goes_through, single, single_settled, together_first}
use Rattle.cy_oneshot_projections.proofs.projection.keyed_row.Goals as goal

pub loop-key-init : goal.loop-key-init
loop-key-init c = rw c.in_ok-cells.ensures (together_first _)

pub loop-key-preserved : goal.loop-key-preserved
loop-key-preserved c =
    let seen = projected_of c.args.width c.args.seen in
    let of = λ (s : SortKey). key_cell c.args.store.now.graph.now.content seen (sort_key_of s).0 (sort_key_of s).1.expression in
    let all = c.args.keys.now in
    let i = c.loop-key.key-index in
    goes_on (λ (l : List SortKey). gathered (map (λ k. key_cell c.args.store.now.graph.now.content seen k.0 k.1.expression) (map sort_key_of l))) (λ s. single (of s)) (λ x xs. refl) c.loop-key.cells c.add.new.self _
    c.key-item.result (drop (i + 1) all) (drop i all) (next_of all i c.key-item.result c.loop-key-test.true c.key-item.is)
    (c.in_ok-add.ensures.ok ∙ ap (together c.loop-key.cells) (single_settled c.key_cell-outcome.result _ c.key_cell-outcome.ensures c.in_ok-add.ensures.settled))
    c.loop-key.invariant

pub returns-in_err-finish : goal.returns-in_err-finish
returns-in_err-finish c =
    let r = err_from_is_err_and c.from_residual-in_err-finish.result c.from_residual-in_err-finish.ensures.1 in
    let seen = projected_of c.args.width c.args.seen in
    let of = λ (s : SortKey). key_cell c.args.store.now.graph.now.content seen (sort_key_of s).0 (sort_key_of s).1.expression in
    let all = c.args.keys.now in
    let through = goes_through (λ (l : List SortKey). gathered (map (λ k. key_cell c.args.store.now.graph.now.content seen k.0 k.1.expression) (map sort_key_of l))) (λ s. single (of s)) (λ x xs. refl) refl c.loop-key.cells _
    (drop c.loop-key.key-index all) (drop_all c.loop-key.key-index all c.loop-key-test.false) c.loop-key.invariant in
    rw (r.1, r.2)
    (fault_of_part (λ (cells : List Cell). let k : Result Keyed EvalFault = Ok (record { row = take c.args.width c.args.seen; keys = cells }) in k)
    (gathered (map (λ k. key_cell c.args.store.now.graph.now.content seen k.0 k.1.expression) (map sort_key_of all))) _ c.in_err-finish.field-0.0 refl (inl (sym through ∙ c.in_err-finish.ensures)))

pub returns : goal.returns
returns c =
    let seen = projected_of c.args.width c.args.seen in
    let of = λ (s : SortKey). key_cell c.args.store.now.graph.now.content seen (sort_key_of s).0 (sort_key_of s).1.expression in
    let all = c.args.keys.now in
    let through = goes_through (λ (l : List SortKey). gathered (map (λ k. key_cell c.args.store.now.graph.now.content seen k.0 k.1.expression) (map sort_key_of l))) (λ s. single (of s)) (λ x xs. refl) refl c.loop-key.cells _
    (drop c.loop-key.key-index all) (drop_all c.loop-key.key-index all c.loop-key-test.false) c.loop-key.invariant in
    let keyed = λ (row cells : List Cell). let k : Keyed = record { row = row; keys = cells } in k in
    ap (λ (o : Result (List Cell) EvalFault). on_one (λ cells. Ok (keyed (take c.args.width c.args.seen) cells)) o) (sym through ∙ c.in_ok-finish.ensures)
    ∙ (λ i. Ok (keyed (sym c.first_cells.ensures i) (sym c.new.ensures i)))
