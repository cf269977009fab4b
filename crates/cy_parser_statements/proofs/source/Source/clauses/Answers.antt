use Rattle.std.proofs.Common.{rules, arith, map}
use Rattle.std.proofs.lemmas.Grind.{common_steps}
use Rattle.cy_trees.specs.TreeModels.{clause_of}
use Rattle.cy_parser_grammar.specs.internal.Clauses.{clauses, clauses_from}
use Rattle.cy_parser_grammar.specs.internal.Reader.{and_then}
use Rattle.cy_parser_statements.proofs.Turns.{turn, turned}
use Rattle.cy_parser_statements.proofs.source.Source.clauses.Goals as goal

pub loop-turn-init : goal.loop-turn-init
unfolding clauses and_then
loop-turn-init c = first_of (search rules, grind (arith, common_steps))

pub returns-in_err-query_end : goal.returns-in_err-query_end
unfolding clauses_from and_then
returns-in_err-query_end c =
    let e = turn (λ n. clauses_from c.args.self.now.line.now n c.args.is_later c.loop-turn.phase (map clause_of c.loop-turn.found.items) c.loop-turn.tokens) _ c.loop-turn._turn c.loop-turn-test.true c.loop-turn.invariant in
    first_of (search rules, grind (arith, common_steps))

pub returns-in_default : goal.returns-in_default
unfolding clauses_from and_then
returns-in_default c =
    let e = turn (λ n. clauses_from c.args.self.now.line.now n c.args.is_later c.loop-turn.phase (map clause_of c.loop-turn.found.items) c.loop-turn.tokens) _ c.loop-turn._turn c.loop-turn-test.true c.loop-turn.invariant in
    first_of (search rules, grind (arith, common_steps))

pub returns-in_err-clause_in : goal.returns-in_err-clause_in
unfolding clauses_from and_then
returns-in_err-clause_in c =
    let e = turn (λ n. clauses_from c.args.self.now.line.now n c.args.is_later c.loop-turn.phase (map clause_of c.loop-turn.found.items) c.loop-turn.tokens) _ c.loop-turn._turn c.loop-turn-test.true c.loop-turn.invariant in
    first_of (search rules, grind (arith, common_steps))

pub loop-turn-preserved : goal.loop-turn-preserved
unfolding clauses_from and_then
loop-turn-preserved c =
    let e = turn (λ n. clauses_from c.args.self.now.line.now n c.args.is_later c.loop-turn.phase (map clause_of c.loop-turn.found.items) c.loop-turn.tokens) _ c.loop-turn._turn c.loop-turn-test.true c.loop-turn.invariant in
    first_of (search rules, grind (arith, common_steps))

pub returns-in_err-query_end-2 : goal.returns-in_err-query_end-2
unfolding clauses_from and_then
returns-in_err-query_end-2 c =
    let e = turned (λ n. clauses_from c.args.self.now.line.now n c.args.is_later c.loop-turn.phase (map clause_of c.loop-turn.found.items) c.loop-turn.tokens) _ c.loop-turn._turn c.loop-turn-test.false c.loop-turn.invariant in
    first_of (search rules, grind (arith, common_steps))

pub returns : goal.returns
unfolding clauses_from and_then
returns c =
    let e = turned (λ n. clauses_from c.args.self.now.line.now n c.args.is_later c.loop-turn.phase (map clause_of c.loop-turn.found.items) c.loop-turn.tokens) _ c.loop-turn._turn c.loop-turn-test.false c.loop-turn.invariant in
    first_of (search rules, grind (arith, common_steps))
