use Rattle.std.proofs.lemmas.Result.{err_from_is_err_and}
use Rattle.cy_trees.specs.TreeModels.{statement_of}
use Rattle.cy_engine_lines.specs.Verdicts.{scope_verdict}
use Rattle.cy_engine_lines.proofs.FromTokens.{parse_fails, scope_fails, scope_given}
use Rattle.cy_engine_lines.proofs.reading.read_statement.Goals as goal

pub returns-in_err-tree : goal.returns-in_err-tree
returns-in_err-tree c =
    let p = err_from_is_err_and c.from_residual.result c.from_residual.ensures.1 in
    rw (p.1, p.2) (parse_fails scope_verdict c.args.line.now c.args.tokens.now c.in_err-tree.field-0.0 c.in_err-tree.ensures.places (λ is. let same = c.in_err-tree.ensures.none is in cc) c.in_err-tree.ensures.complete)

pub returns-in_err-check : goal.returns-in_err-check
returns-in_err-check c =
    let p = err_from_is_err_and c.from_residual-in_err-check.result c.from_residual-in_err-check.ensures.1 in
    rw (p.1, p.2) (scope_fails c.args.line.now c.args.tokens.now (statement_of c.in_ok-tree.tree) c.in_err-check.field-0.0 c.in_ok-tree.ensures.spelt c.in_err-check.ensures)

pub returns : goal.returns
returns c = scope_given c.args.line.now c.args.tokens.now (statement_of c.in_ok-tree.tree) (statement_of c.in_ok-check.field-0) c.in_ok-tree.ensures.spelt c.in_ok-check.ensures.0 c.in_ok-check.ensures.1
