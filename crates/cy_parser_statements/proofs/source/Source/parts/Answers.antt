use Rattle.std.proofs.Common.{rules, arith, map}
use Rattle.std.proofs.lemmas.Grind.{common_steps}
use Rattle.cy_parser_statements.specs.internal.Parts.{part_of}
use Rattle.cy_parser_grammar.specs.internal.Clauses.{parts, parts_from}
use Rattle.cy_parser_grammar.specs.internal.Reader.{and_then}
use Rattle.cy_parser_statements.proofs.Turns.{turn, turned}
use Rattle.cy_parser_statements.proofs.source.Source.parts.Goals as goal

pub loop-turn-init : goal.loop-turn-init
unfolding parts and_then
loop-turn-init c = first_of (search rules, grind (arith, common_steps))

pub returns-in_err-part : goal.returns-in_err-part
unfolding parts_from and_then
returns-in_err-part c =
    let e = turn (λ n. parts_from c.args.self.now.line.now n (map part_of c.loop-turn.found.items) c.loop-turn.tokens) _ c.loop-turn._turn c.loop-turn-test.true c.loop-turn.invariant in
    first_of (search rules, grind (arith, common_steps))

pub returns-then-not-eat_keyword : goal.returns-then-not-eat_keyword
unfolding parts_from and_then
returns-then-not-eat_keyword c =
    let e = turn (λ n. parts_from c.args.self.now.line.now n (map part_of c.loop-turn.found.items) c.loop-turn.tokens) _ c.loop-turn._turn c.loop-turn-test.true c.loop-turn.invariant in
    first_of (search rules, grind (arith, common_steps))

pub loop-turn-preserved : goal.loop-turn-preserved
unfolding parts_from and_then
loop-turn-preserved c =
    let e = turn (λ n. parts_from c.args.self.now.line.now n (map part_of c.loop-turn.found.items) c.loop-turn.tokens) _ c.loop-turn._turn c.loop-turn-test.true c.loop-turn.invariant in
    first_of (search rules, grind (arith, common_steps))

pub returns : goal.returns
unfolding parts_from and_then
returns c =
    let e = turned (λ n. parts_from c.args.self.now.line.now n (map part_of c.loop-turn.found.items) c.loop-turn.tokens) _ c.loop-turn._turn c.loop-turn-test.false c.loop-turn.invariant in
    first_of (search rules, grind (arith, common_steps))
