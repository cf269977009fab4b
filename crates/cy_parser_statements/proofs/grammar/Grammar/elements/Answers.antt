use Rattle.std.proofs.Common.{rules, arith}
use Rattle.std.proofs.lemmas.Grind.{common_steps}
use Rattle.cy_parser_statements.specs.internal.Operands.{elements_of}
use Rattle.cy_parser_grammar.specs.internal.Expressions.{nesting, elements, elements_from}
use Rattle.cy_parser_grammar.specs.internal.Reader.{and_then}
use Rattle.cy_parser_statements.proofs.Turns.{turn, turned}
use Rattle.cy_parser_statements.proofs.grammar.Grammar.elements.Goals as goal

pub loop-turn-init : goal.loop-turn-init
unfolding elements and_then
loop-turn-init g c = first_of (search rules, grind (arith, common_steps))

pub returns-in_err-inside-clause-read : goal.returns-in_err-inside-clause-read
unfolding elements_from and_then
returns-in_err-inside-clause-read g c =
    let e = turn (λ n. elements_from c.args.self.now.line.now (nesting c.args.self.now.line.now c.args.self.now.levels) n (elements_of c.loop-turn.found) c.loop-turn.tokens) _ c.loop-turn._turn c.loop-turn-test.true c.loop-turn.invariant.read in
    first_of (search rules, grind (arith, common_steps))

pub returns-in_err-push-clause-read : goal.returns-in_err-push-clause-read
unfolding elements_from and_then
returns-in_err-push-clause-read g c =
    let e = turn (λ n. elements_from c.args.self.now.line.now (nesting c.args.self.now.line.now c.args.self.now.levels) n (elements_of c.loop-turn.found) c.loop-turn.tokens) _ c.loop-turn._turn c.loop-turn-test.true c.loop-turn.invariant.read in
    first_of (search rules, grind (arith, common_steps))

pub returns-then-not-eat_symbol-clause-read : goal.returns-then-not-eat_symbol-clause-read
unfolding elements_from and_then
returns-then-not-eat_symbol-clause-read g c =
    let e = turn (λ n. elements_from c.args.self.now.line.now (nesting c.args.self.now.line.now c.args.self.now.levels) n (elements_of c.loop-turn.found) c.loop-turn.tokens) _ c.loop-turn._turn c.loop-turn-test.true c.loop-turn.invariant.read in
    first_of (search rules, grind (arith, common_steps))

pub loop-turn-preserved : goal.loop-turn-preserved
unfolding elements_from and_then
loop-turn-preserved g c =
    let e = turn (λ n. elements_from c.args.self.now.line.now (nesting c.args.self.now.line.now c.args.self.now.levels) n (elements_of c.loop-turn.found) c.loop-turn.tokens) _ c.loop-turn._turn c.loop-turn-test.true c.loop-turn.invariant.read in
    first_of (search rules, grind (arith, common_steps))

pub returns-clause-read : goal.returns-clause-read
unfolding elements_from and_then
returns-clause-read g c =
    let e = turned (λ n. elements_from c.args.self.now.line.now (nesting c.args.self.now.line.now c.args.self.now.levels) n (elements_of c.loop-turn.found) c.loop-turn.tokens) _ c.loop-turn._turn c.loop-turn-test.false c.loop-turn.invariant.read in
    first_of (search rules, grind (arith, common_steps))
