use Rattle.std.proofs.Common.{rules, arith}
use Rattle.std.proofs.lemmas.Grind.{common_steps}
use Rattle.cy_parser_grammar.specs.internal.Expressions.{nesting, predicates_from}
use Rattle.cy_parser_statements.specs.internal.Operands.{operand_of}
use Rattle.cy_parser_grammar.specs.internal.Reader.{and_then}
use Rattle.cy_parser_statements.proofs.Turns.{turn, turned}
use Rattle.cy_parser_statements.proofs.grammar.Grammar.predicate_after.Goals as goal

pub returns-in_err-left : goal.returns-in_err-left
unfolding predicates_from and_then
returns-in_err-left g c =
    let e = turn (λ n. predicates_from c.args.self.now.line.now c.args.self.now.levels (nesting c.args.self.now.line.now c.args.self.now.levels) n (operand_of c.loop-turn.left) c.loop-turn.tokens) _ c.loop-turn._turn c.loop-turn-test.true c.loop-turn.invariant in
    first_of (search rules, grind (arith, common_steps))

pub returns-then-not-begins_predicate : goal.returns-then-not-begins_predicate
unfolding predicates_from and_then
returns-then-not-begins_predicate g c =
    let e = turn (λ n. predicates_from c.args.self.now.line.now c.args.self.now.levels (nesting c.args.self.now.line.now c.args.self.now.levels) n (operand_of c.loop-turn.left) c.loop-turn.tokens) _ c.loop-turn._turn c.loop-turn-test.true c.loop-turn.invariant in
    first_of (search rules, grind (arith, common_steps))

pub loop-turn-preserved : goal.loop-turn-preserved
unfolding predicates_from and_then
loop-turn-preserved g c =
    let e = turn (λ n. predicates_from c.args.self.now.line.now c.args.self.now.levels (nesting c.args.self.now.line.now c.args.self.now.levels) n (operand_of c.loop-turn.left) c.loop-turn.tokens) _ c.loop-turn._turn c.loop-turn-test.true c.loop-turn.invariant in
    first_of (search rules, grind (arith, common_steps))

pub returns : goal.returns
unfolding predicates_from and_then
returns g c =
    let e = turned (λ n. predicates_from c.args.self.now.line.now c.args.self.now.levels (nesting c.args.self.now.line.now c.args.self.now.levels) n (operand_of c.loop-turn.left) c.loop-turn.tokens) _ c.loop-turn._turn c.loop-turn-test.false c.loop-turn.invariant in
    first_of (search rules, grind (arith, common_steps))
