use Rattle.std.proofs.Common.{◌≡◌, suc, ◌-◌, ap, subst, arith}
use Rattle.cy_parser_grammar.specs.internal.Expressions.{nesting}
use Rattle.cy_parser_statements.specs.internal.Operands.{operand_of}
use Rattle.cy_parser_grammar.specs.internal.Reader.{and_then}
use Rattle.cy_parser_statements.specs.internal.Reads.{Reads}
use Rattle.cy_parser_statements.proofs.nesting.+nesting.Goals as goal

pub returns-then-levels-eq0 : goal.returns-then-levels-eq0
unfolding nesting and_then
returns-then-levels-eq0 t c _ =
    let none : c.args.levels ≡ 0 = omega arith in
    ap (λ n. nesting c.args.line.now n c.args.place c.args.tokens.now) none

pub returns : goal.returns
unfolding nesting and_then
returns t c =
    let some : suc (c.args.levels - 1) ≡ c.args.levels = omega arith in
    subst (λ n. Reads operand_of (nesting c.args.line.now n c.args.place c.args.tokens.now) c.level.result c.level.new.tokens) some c.level.ensures
