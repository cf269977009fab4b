use Rattle.std.proofs.Common.{map, sym, ◌∙◌, arith}
use Rattle.cy_planner_algebra.specs.PlanModels.{output_of}
use Rattle.cy_network_relevance.specs.Trails.{is_told}
use Rattle.cy_network_relevance.proofs.AnyOutput.{all_from_each, one_fails}
use Rattle.cy_network_relevance.proofs.trails.are_told.Goals as goal

pub returns-then-not-is_told : goal.returns-then-not-is_told
returns-then-not-is_told c =
    sym (one_fails (is_told c.args.wide c.args.keys.now (map output_of c.args.outputs.now)) c.args.count c.loop-column.column c.loop-column-test.true (sym c.is_told.ensures ∙ c.if-not-is_told.true))

pub returns : goal.returns
returns c =
    sym (all_from_each (is_told c.args.wide c.args.keys.now (map output_of c.args.outputs.now)) c.args.count
    (λ k less. c.loop-column.invariant k (let done = c.loop-column-test.false in omega (arith, less, done))))
