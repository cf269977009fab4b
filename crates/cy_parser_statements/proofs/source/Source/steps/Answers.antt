use Rattle.std.proofs.Common.{rules, arith, map}
use Rattle.std.proofs.lemmas.Grind.{common_steps}
use Rattle.cy_trees.specs.TreeModels.{step_of}
use Rattle.cy_parser_grammar.specs.internal.Clauses.{steps, steps_from}
use Rattle.cy_parser_grammar.specs.internal.Reader.{and_then}
use Rattle.cy_parser_statements.proofs.Turns.{turn, turned}
use Rattle.cy_parser_statements.proofs.source.Source.steps.Goals as goal

pub loop-turn-init : goal.loop-turn-init
unfolding steps and_then
loop-turn-init c = first_of (search rules, grind (arith, common_steps))

pub returns-in_err-step : goal.returns-in_err-step
unfolding steps_from and_then
returns-in_err-step c =
    let e = turn (λ n. steps_from c.args.self.now.line.now n (map step_of c.loop-turn.found.items) c.loop-turn.tokens) _ c.loop-turn._turn c.loop-turn-test.true c.loop-turn.invariant in
    first_of (search rules, grind (arith, common_steps))

pub returns-then-not-begins_step : goal.returns-then-not-begins_step
unfolding steps_from and_then
returns-then-not-begins_step c =
    let e = turn (λ n. steps_from c.args.self.now.line.now n (map step_of c.loop-turn.found.items) c.loop-turn.tokens) _ c.loop-turn._turn c.loop-turn-test.true c.loop-turn.invariant in
    first_of (search rules, grind (arith, common_steps))

pub loop-turn-preserved : goal.loop-turn-preserved
unfolding steps_from and_then
loop-turn-preserved c =
    let e = turn (λ n. steps_from c.args.self.now.line.now n (map step_of c.loop-turn.found.items) c.loop-turn.tokens) _ c.loop-turn._turn c.loop-turn-test.true c.loop-turn.invariant in
    first_of (search rules, grind (arith, common_steps))

pub returns : goal.returns
unfolding steps_from and_then
returns c =
    let e = turned (λ n. steps_from c.args.self.now.line.now n (map step_of c.loop-turn.found.items) c.loop-turn.tokens) _ c.loop-turn._turn c.loop-turn-test.false c.loop-turn.invariant in
    first_of (search rules, grind (arith, common_steps))
