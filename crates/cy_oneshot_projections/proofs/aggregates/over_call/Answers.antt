use Rattle.std.proofs.Common.{inl, refl, sym, ap, ◌∙◌, arith}
use Rattle.std.proofs.lemmas.Bool.Decides.{nat_tests}
use Rattle.std.proofs.lemmas.Result.{err_from_is_err_and}
use Rattle.cy_scope_kinds.specs.Functions.{function_named}
use Rattle.cy_oneshot_projections.proofs.AggregateAnswers.{answers_one, fails_one, of_others}
use Rattle.cy_oneshot_projections.proofs.aggregates.over_call.Goals as goal

pub returns-in_err-cells-in-len1 : goal.returns-in_err-cells-in-len1
returns-in_err-cells-in-len1 c =
    let r = err_from_is_err_and c.from_residual.result c.from_residual.ensures.1 in
    rw (r.1, r.2)
    (fails_one c.args.store.now.graph.now.content c.args.name.now c.args.distinct c.args.rows.now c.args.arguments.now c.argument-item.result (omega arith) c.argument-item.is _ c.in_err-cells-in-len1.ensures)

pub returns-in_ok-cells-in-len1 : goal.returns-in_ok-cells-in-len1
returns-in_ok-cells-in-len1 c =
    answers_one c.args.store.now.graph.now.content c.args.name.now c.args.distinct c.args.rows.now c.args.arguments.now c.argument-item.result (omega arith) c.argument-item.is
    c.in_ok-cells-in-len1.cells.items _ c.named-function.result c.aggregate_of.result c.in_ok-cells-in-len1.ensures (c.named-function.ensures ∙ ap function_named c.as_str.ensures) refl c.aggregate_of.ensures

pub returns-in_default : goal.returns-in_default
returns-in_default c = inl (sym (of_others c.args.store.now.graph.now.content c.args.name.now c.args.distinct c.args.rows.now c.args.arguments.now (λ one. grind (arith, nat_tests))))
