use Rattle.std.proofs.Common.{rules, arith}
use Rattle.std.proofs.lemmas.Grind.{common_steps}
use Rattle.cy_parser_statements.specs.internal.Operands.{operand_of}
use Rattle.cy_parser_grammar.specs.internal.Expressions.{properties, properties_from}
use Rattle.cy_parser_grammar.specs.internal.Reader.{and_then}
use Rattle.cy_parser_statements.proofs.Turns.{turn, turned}
use Rattle.cy_parser_statements.proofs.grammar.Grammar.properties.Goals as goal

pub loop-turn-init : goal.loop-turn-init
unfolding properties and_then
loop-turn-init g c = first_of (search rules, grind (arith, common_steps))

pub returns-then-not-eat_symbol : goal.returns-then-not-eat_symbol
unfolding properties_from and_then
returns-then-not-eat_symbol g c =
    let e = turn (λ n. properties_from c.args.self.now.line.now n (operand_of c.loop-turn.owner) c.loop-turn.tokens) _ c.loop-turn._turn c.loop-turn-test.true c.loop-turn.invariant in
    first_of (search rules, grind (arith, common_steps))

pub returns-in_err-key : goal.returns-in_err-key
unfolding properties_from and_then
returns-in_err-key g c =
    let e = turn (λ n. properties_from c.args.self.now.line.now n (operand_of c.loop-turn.owner) c.loop-turn.tokens) _ c.loop-turn._turn c.loop-turn-test.true c.loop-turn.invariant in
    first_of (search rules, grind (arith, common_steps))

pub returns-in_err-owner : goal.returns-in_err-owner
unfolding properties_from and_then
returns-in_err-owner g c =
    let e = turn (λ n. properties_from c.args.self.now.line.now n (operand_of c.loop-turn.owner) c.loop-turn.tokens) _ c.loop-turn._turn c.loop-turn-test.true c.loop-turn.invariant in
    first_of (search rules, grind (arith, common_steps))

pub loop-turn-preserved : goal.loop-turn-preserved
unfolding properties_from and_then
loop-turn-preserved g c =
    let e = turn (λ n. properties_from c.args.self.now.line.now n (operand_of c.loop-turn.owner) c.loop-turn.tokens) _ c.loop-turn._turn c.loop-turn-test.true c.loop-turn.invariant in
    first_of (search rules, grind (arith, common_steps))

pub returns : goal.returns
unfolding properties_from and_then
returns g c =
    let e = turned (λ n. properties_from c.args.self.now.line.now n (operand_of c.loop-turn.owner) c.loop-turn.tokens) _ c.loop-turn._turn c.loop-turn-test.false c.loop-turn.invariant in
    first_of (search rules, grind (arith, common_steps))
