use Rattle.std.proofs.Common.{map, sym, ◌∙◌, arith}
use Rattle.cy_planner_algebra.specs.PlanModels.{output_of}
use Rattle.cy_network_relevance.specs.Trails.{is_paired}
use Rattle.cy_network_relevance.proofs.AnyOutput.{all_from_each, one_fails}
use Rattle.cy_network_relevance.proofs.trails.are_paired.Goals as goal

pub returns-then-not-is_paired : goal.returns-then-not-is_paired
returns-then-not-is_paired c =
    sym (one_fails (is_paired c.args.wide c.args.keys.now (map output_of c.args.outputs.now)) c.args.count c.loop-column.column c.loop-column-test.true (sym c.is_paired.ensures ∙ c.if-not-is_paired.true))

pub returns : goal.returns
returns c =
    sym (all_from_each (is_paired c.args.wide c.args.keys.now (map output_of c.args.outputs.now)) c.args.count
    (λ k less. c.loop-column.invariant k (let done = c.loop-column-test.false in omega (arith, less, done))))
