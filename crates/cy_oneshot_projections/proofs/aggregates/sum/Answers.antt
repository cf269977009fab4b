use Rattle.std.proofs.Common.{◌≡◌, ◌+◌, drop, sym, ap, ◌∙◌, arith}
use Rattle.std.specs.Prelude.{ℤ, Option}
use Rattle.std.specs.Option.{ok_or}
use Rattle.std.proofs.lemmas.Int.{ints, to_z-of_z}
use Rattle.std.proofs.lemmas.List.{drop_all}
use Rattle.std.proofs.lemmas.Result.{err_from_is_err_and}
use Rattle.cy_expr.specs.declared.faults.EvalFault.TheVariants.{WrongType}
use Rattle.cy_expr.specs.Arithmetic.{integer}
use Rattle.cy_expr.specs.Faults.{on_one}
use Rattle.cy_oneshot_projections.proofs.AggregateAnswers.{failed}
use Rattle.cy_oneshot_projections.proofs.SumLemmas.{first_total, next_total, no_total, whole_total}
use Rattle.cy_oneshot_patterns.proofs.SliceReads.{next_of}
use Rattle.cy_oneshot_projections.proofs.Totals.{total_in}
use Rattle.cy_oneshot_projections.proofs.aggregates.sum.Goals as goal

pub loop-cell-init : goal.loop-cell-init
loop-cell-init c = (first_total (total_in c.args.cells.now), omega (arith, ints), omega (arith, ints))

pub loop-cell-preserved : goal.loop-cell-preserved
loop-cell-preserved c =
    let all = c.args.cells.now in
    let i = c.loop-cell.cell-index in
    let cell = c.cell-item.result in
    let more = next_total _ c.in_ok-number.number cell (drop (i + 1) all) (drop i all) _ (next_of all i cell c.loop-cell-test.true c.cell-item.is)
    (sym c.integer_in.ensures ∙ c.in_ok-number.ensures.ok_part) c.loop-cell.invariant.0 in
    (grind (arith, ints, to_z-of_z, more), omega (arith, ints), omega (arith, ints))

pub returns-in_err-number : goal.returns-in_err-number
returns-in_err-number c =
    let r = err_from_is_err_and c.from_residual.result c.from_residual.ensures.1 in
    let all = c.args.cells.now in
    let i = c.loop-cell.cell-index in
    let cell = c.cell-item.result in
    let wrong : c.in_err-number.field-0.0 ≡ WrongType = cc (c.in_err-number.ensures.value ∙ ap (λ (o : Option ℤ). ok_or o WrongType) c.in_err-number.ensures.ok_part) in
    rw (r.1, r.2)
    (ap failed wrong
    ∙ sym (ap (on_one integer) (no_total _ cell (drop (i + 1) all) (drop i all) _ (next_of all i cell c.loop-cell-test.true c.cell-item.is)
    (sym c.integer_in.ensures ∙ c.in_err-number.ensures.ok_part) c.loop-cell.invariant.0)))

pub returns : goal.returns
returns c =
    let all = c.args.cells.now in
    let i = c.loop-cell.cell-index in
    let summed = ap (on_one integer) (whole_total _ (drop i all) _ (drop_all i all c.loop-cell-test.false) c.loop-cell.invariant.0) in
    grind (arith, ints, to_z-of_z, summed, c.total_value.ensures)
