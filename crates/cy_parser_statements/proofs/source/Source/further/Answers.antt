use Rattle.std.proofs.Common.{rules, arith, map}
use Rattle.std.proofs.lemmas.Grind.{common_steps}
use Rattle.cy_trees.specs.TreeModels.{query_of}
use Rattle.cy_parser_grammar.specs.internal.Clauses.{queries_from}
use Rattle.cy_parser_grammar.specs.internal.Reader.{and_then}
use Rattle.cy_parser_statements.proofs.Turns.{turn, turned}
use Rattle.cy_parser_statements.proofs.source.Source.further.Goals as goal

pub returns-then-not-eat_keyword : goal.returns-then-not-eat_keyword
unfolding queries_from and_then
returns-then-not-eat_keyword c =
    let e = turn (λ n. queries_from c.args.self.now.line.now n c.args.all (map query_of c.loop-turn.found.items) c.loop-turn.tokens) _ c.loop-turn._turn c.loop-turn-test.true c.loop-turn.invariant in
    first_of (search rules, grind (arith, common_steps))

pub returns-in_err-same_union : goal.returns-in_err-same_union
unfolding queries_from and_then
returns-in_err-same_union c =
    let e = turn (λ n. queries_from c.args.self.now.line.now n c.args.all (map query_of c.loop-turn.found.items) c.loop-turn.tokens) _ c.loop-turn._turn c.loop-turn-test.true c.loop-turn.invariant in
    first_of (search rules, grind (arith, common_steps))

pub returns-in_err-query : goal.returns-in_err-query
unfolding queries_from and_then
returns-in_err-query c =
    let e = turn (λ n. queries_from c.args.self.now.line.now n c.args.all (map query_of c.loop-turn.found.items) c.loop-turn.tokens) _ c.loop-turn._turn c.loop-turn-test.true c.loop-turn.invariant in
    first_of (search rules, grind (arith, common_steps))

pub loop-turn-preserved : goal.loop-turn-preserved
unfolding queries_from and_then
loop-turn-preserved c =
    let e = turn (λ n. queries_from c.args.self.now.line.now n c.args.all (map query_of c.loop-turn.found.items) c.loop-turn.tokens) _ c.loop-turn._turn c.loop-turn-test.true c.loop-turn.invariant in
    first_of (search rules, grind (arith, common_steps))

pub returns : goal.returns
unfolding queries_from and_then
returns c =
    let e = turned (λ n. queries_from c.args.self.now.line.now n c.args.all (map query_of c.loop-turn.found.items) c.loop-turn.tokens) _ c.loop-turn._turn c.loop-turn-test.false c.loop-turn.invariant in
    first_of (search rules, grind (arith, common_steps))
