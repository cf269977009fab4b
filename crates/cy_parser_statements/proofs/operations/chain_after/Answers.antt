use Rattle.std.proofs.Common.{rules, arith}
use Rattle.std.proofs.lemmas.Grind.{common_steps}
use Rattle.cy_parser_grammar.specs.internal.Expressions.{chain_from}
use Rattle.cy_parser_statements.specs.internal.Operands.{operand_of}
use Rattle.cy_parser_grammar.specs.internal.Reader.{and_then}
use Rattle.cy_parser_statements.proofs.Turns.{turn, turned}
use Rattle.cy_parser_statements.proofs.operations.chain_after.Goals as goal

pub returns-in_default : goal.returns-in_default
unfolding chain_from and_then
returns-in_default g c = λ operators read is.
    let e = turn (λ n. chain_from operators read n (operand_of c.loop-turn.left) c.loop-turn.tokens) _ c.loop-turn._turn c.loop-turn-test.true (c.loop-turn.invariant operators read is) in
    first_of (search rules, grind (arith, common_steps))

pub returns-in_err-right : goal.returns-in_err-right
unfolding chain_from and_then
returns-in_err-right g c = λ operators read is.
    let e = turn (λ n. chain_from operators read n (operand_of c.loop-turn.left) c.loop-turn.tokens) _ c.loop-turn._turn c.loop-turn-test.true (c.loop-turn.invariant operators read is) in
    first_of (search rules, grind (arith, common_steps))

pub returns-in_err-left : goal.returns-in_err-left
unfolding chain_from and_then
returns-in_err-left g c = λ operators read is.
    let e = turn (λ n. chain_from operators read n (operand_of c.loop-turn.left) c.loop-turn.tokens) _ c.loop-turn._turn c.loop-turn-test.true (c.loop-turn.invariant operators read is) in
    first_of (search rules, grind (arith, common_steps))

pub loop-turn-preserved : goal.loop-turn-preserved
unfolding chain_from and_then
loop-turn-preserved g c = λ operators read is.
    let e = turn (λ n. chain_from operators read n (operand_of c.loop-turn.left) c.loop-turn.tokens) _ c.loop-turn._turn c.loop-turn-test.true (c.loop-turn.invariant operators read is) in
    first_of (search rules, grind (arith, common_steps))

pub returns : goal.returns
unfolding chain_from and_then
returns g c = λ operators read is.
    let e = turned (λ n. chain_from operators read n (operand_of c.loop-turn.left) c.loop-turn.tokens) _ c.loop-turn._turn c.loop-turn-test.false (c.loop-turn.invariant operators read is) in
    first_of (search rules, grind (arith, common_steps))
