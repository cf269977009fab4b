use Rattle.std.proofs.Common.{rules, arith}
use Rattle.std.proofs.lemmas.Grind.{common_steps}
use Rattle.cy_parser_statements.specs.internal.Operands.{arms_in}
use Rattle.cy_parser_grammar.specs.internal.Expressions.{nesting, arms, arms_read}
use Rattle.cy_parser_grammar.specs.internal.Reader.{and_then}
use Rattle.cy_parser_statements.proofs.Turns.{turn, turned}
use Rattle.cy_parser_statements.proofs.grammar.Grammar.arms.Goals as goal

pub loop-turn-init : goal.loop-turn-init
unfolding arms and_then
loop-turn-init g c = first_of (search rules, grind (arith, common_steps))

pub returns-in_err-condition-clause-read : goal.returns-in_err-condition-clause-read
unfolding arms_read and_then
returns-in_err-condition-clause-read g c =
    let e = turn (λ n. arms_read c.args.self.now.line.now (nesting c.args.self.now.line.now c.args.self.now.levels) n (arms_in c.loop-turn.found) c.loop-turn.tokens) _ c.loop-turn._turn c.loop-turn-test.true c.loop-turn.invariant.read in
    first_of (search rules, grind (arith, common_steps))

pub returns-in_err-expect_keyword-clause-read : goal.returns-in_err-expect_keyword-clause-read
unfolding arms_read and_then
returns-in_err-expect_keyword-clause-read g c =
    let e = turn (λ n. arms_read c.args.self.now.line.now (nesting c.args.self.now.line.now c.args.self.now.levels) n (arms_in c.loop-turn.found) c.loop-turn.tokens) _ c.loop-turn._turn c.loop-turn-test.true c.loop-turn.invariant.read in
    first_of (search rules, grind (arith, common_steps))

pub returns-in_err-inside-clause-read : goal.returns-in_err-inside-clause-read
unfolding arms_read and_then
returns-in_err-inside-clause-read g c =
    let e = turn (λ n. arms_read c.args.self.now.line.now (nesting c.args.self.now.line.now c.args.self.now.levels) n (arms_in c.loop-turn.found) c.loop-turn.tokens) _ c.loop-turn._turn c.loop-turn-test.true c.loop-turn.invariant.read in
    first_of (search rules, grind (arith, common_steps))

pub returns-then-not-eat_keyword-clause-read : goal.returns-then-not-eat_keyword-clause-read
unfolding arms_read and_then
returns-then-not-eat_keyword-clause-read g c =
    let e = turn (λ n. arms_read c.args.self.now.line.now (nesting c.args.self.now.line.now c.args.self.now.levels) n (arms_in c.loop-turn.found) c.loop-turn.tokens) _ c.loop-turn._turn c.loop-turn-test.true c.loop-turn.invariant.read in
    first_of (search rules, grind (arith, common_steps))

pub loop-turn-preserved : goal.loop-turn-preserved
unfolding arms_read and_then
loop-turn-preserved g c =
    let e = turn (λ n. arms_read c.args.self.now.line.now (nesting c.args.self.now.line.now c.args.self.now.levels) n (arms_in c.loop-turn.found) c.loop-turn.tokens) _ c.loop-turn._turn c.loop-turn-test.true c.loop-turn.invariant.read in
    first_of (search rules, grind (arith, common_steps))

pub returns-clause-read : goal.returns-clause-read
unfolding arms_read and_then
returns-clause-read g c =
    let e = turned (λ n. arms_read c.args.self.now.line.now (nesting c.args.self.now.line.now c.args.self.now.levels) n (arms_in c.loop-turn.found) c.loop-turn.tokens) _ c.loop-turn._turn c.loop-turn-test.false c.loop-turn.invariant.read in
    first_of (search rules, grind (arith, common_steps))
