use Rattle.std.proofs.Common.{rules, arith}
use Rattle.std.proofs.lemmas.Grind.{common_steps}
use Rattle.cy_parser_statements.specs.internal.Operands.{links_in}
use Rattle.cy_parser_grammar.specs.internal.Expressions.{nesting, links, links_read}
use Rattle.cy_parser_grammar.specs.internal.Reader.{and_then}
use Rattle.cy_parser_statements.proofs.Turns.{turn, turned}
use Rattle.cy_parser_statements.proofs.grammar.Grammar.links.Goals as goal

pub loop-turn-init : goal.loop-turn-init
unfolding links and_then
loop-turn-init g c = first_of (search rules, grind (arith, common_steps))

pub returns-in_default-clause-read : goal.returns-in_default-clause-read
unfolding links_read and_then
returns-in_default-clause-read g c =
    let e = turn (λ n. links_read c.args.self.now.line.now c.args.self.now.levels (nesting c.args.self.now.line.now c.args.self.now.levels) n (links_in c.loop-turn.found) c.loop-turn.tokens) _ c.loop-turn._turn c.loop-turn-test.true c.loop-turn.invariant.read in
    first_of (search rules, grind (arith, common_steps))

pub returns-in_err-predicate-clause-read : goal.returns-in_err-predicate-clause-read
unfolding links_read and_then
returns-in_err-predicate-clause-read g c =
    let e = turn (λ n. links_read c.args.self.now.line.now c.args.self.now.levels (nesting c.args.self.now.line.now c.args.self.now.levels) n (links_in c.loop-turn.found) c.loop-turn.tokens) _ c.loop-turn._turn c.loop-turn-test.true c.loop-turn.invariant.read in
    first_of (search rules, grind (arith, common_steps))

pub returns-in_err-push_link-clause-read : goal.returns-in_err-push_link-clause-read
unfolding links_read and_then
returns-in_err-push_link-clause-read g c =
    let e = turn (λ n. links_read c.args.self.now.line.now c.args.self.now.levels (nesting c.args.self.now.line.now c.args.self.now.levels) n (links_in c.loop-turn.found) c.loop-turn.tokens) _ c.loop-turn._turn c.loop-turn-test.true c.loop-turn.invariant.read in
    first_of (search rules, grind (arith, common_steps))

pub loop-turn-preserved : goal.loop-turn-preserved
unfolding links_read and_then
loop-turn-preserved g c =
    let e = turn (λ n. links_read c.args.self.now.line.now c.args.self.now.levels (nesting c.args.self.now.line.now c.args.self.now.levels) n (links_in c.loop-turn.found) c.loop-turn.tokens) _ c.loop-turn._turn c.loop-turn-test.true c.loop-turn.invariant.read in
    first_of (search rules, grind (arith, common_steps))

pub returns-clause-read : goal.returns-clause-read
unfolding links_read and_then
returns-clause-read g c =
    let e = turned (λ n. links_read c.args.self.now.line.now c.args.self.now.levels (nesting c.args.self.now.line.now c.args.self.now.levels) n (links_in c.loop-turn.found) c.loop-turn.tokens) _ c.loop-turn._turn c.loop-turn-test.false c.loop-turn.invariant.read in
    first_of (search rules, grind (arith, common_steps))
