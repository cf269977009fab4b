use Rattle.std.proofs.Common.{ap}
use Rattle.std.proofs.lemmas.Result.{err_from_is_err_and}
use Rattle.cy_trees.specs.TreeModels.{statement_of}
use Rattle.cy_engine_lines.proofs.FromTokens.{query_given, query_unchecked, view_fails}
use Rattle.cy_engine_lines.proofs.reading.read_query.Goals as goal

pub returns-in_err-checked : goal.returns-in_err-checked
returns-in_err-checked c =
    let p = err_from_is_err_and c.from_residual.result c.from_residual.ensures.1 in
    rw (p.1, p.2) (query_unchecked c.args.line.now c.args.tokens.now c.in_err-checked.field-0.0 c.in_err-checked.ensures)

pub returns-in_err-check_view : goal.returns-in_err-check_view
returns-in_err-check_view c =
    let p = err_from_is_err_and c.from_residual-in_err-check_view.result c.from_residual-in_err-check_view.ensures.1 in
    rw (p.1, p.2) (view_fails c.args.line.now c.args.tokens.now (statement_of c.in_ok-checked.checked) c.in_ok-checked.ensures c.in_err-check_view.field-0.0 c.in_err-check_view.ensures.verdict)

pub returns : goal.returns
returns c =
    query_given c.args.line.now c.args.tokens.now (statement_of c.in_ok-checked.checked) c.in_ok-checked.ensures c.in_ok-check_view.ensures.verdict (statement_of c.in_ok-check_view.field-0)
    (ap statement_of c.in_ok-check_view.ensures.query)
