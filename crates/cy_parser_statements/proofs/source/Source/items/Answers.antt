use Rattle.std.proofs.Common.{rules, arith, map}
use Rattle.std.proofs.lemmas.Grind.{common_steps}
use Rattle.cy_trees.specs.TreeModels.{item_of}
use Rattle.cy_parser_grammar.specs.internal.Clauses.{item, items, separated_from}
use Rattle.cy_parser_grammar.specs.internal.Reader.{and_then}
use Rattle.cy_parser_statements.proofs.Turns.{turn, turned}
use Rattle.cy_parser_statements.proofs.source.Source.items.Goals as goal

pub loop-turn-init : goal.loop-turn-init
unfolding items and_then
loop-turn-init c = first_of (search rules, grind (arith, common_steps))

pub returns-in_err-item : goal.returns-in_err-item
unfolding separated_from and_then
returns-in_err-item c =
    let e = turn (λ n. separated_from (item c.args.self.now.line.now) n (map item_of c.loop-turn.found.items) c.loop-turn.tokens) _ c.loop-turn._turn c.loop-turn-test.true c.loop-turn.invariant in
    first_of (search rules, grind (arith, common_steps))

pub returns-then-not-eat_symbol : goal.returns-then-not-eat_symbol
unfolding separated_from and_then
returns-then-not-eat_symbol c =
    let e = turn (λ n. separated_from (item c.args.self.now.line.now) n (map item_of c.loop-turn.found.items) c.loop-turn.tokens) _ c.loop-turn._turn c.loop-turn-test.true c.loop-turn.invariant in
    first_of (search rules, grind (arith, common_steps))

pub loop-turn-preserved : goal.loop-turn-preserved
unfolding separated_from and_then
loop-turn-preserved c =
    let e = turn (λ n. separated_from (item c.args.self.now.line.now) n (map item_of c.loop-turn.found.items) c.loop-turn.tokens) _ c.loop-turn._turn c.loop-turn-test.true c.loop-turn.invariant in
    first_of (search rules, grind (arith, common_steps))

pub returns : goal.returns
unfolding separated_from and_then
returns c =
    let e = turned (λ n. separated_from (item c.args.self.now.line.now) n (map item_of c.loop-turn.found.items) c.loop-turn.tokens) _ c.loop-turn._turn c.loop-turn-test.false c.loop-turn.invariant in
    first_of (search rules, grind (arith, common_steps))
