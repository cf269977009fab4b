use Rattle.std.proofs.Common.{map, sym, ap, ◌∙◌, arith}
use Rattle.std.specs.List.{list_all, range_with_len}
use Rattle.cy_planner_algebra.specs.PlanModels.{output_of, plan_of}
use Rattle.cy_network_relevance.specs.Trails.{is_kept_key}
use Rattle.cy_network_relevance.proofs.AnyOutput.{all_from_each, one_fails}
use Rattle.cy_network_relevance.proofs.keys.keeps_key.Goals as goal

pub returns-then-not-is_kept_key : goal.returns-then-not-is_kept_key
returns-then-not-is_kept_key c =
    let passes = is_kept_key (plan_of c.args.part.now) (map output_of c.args.outputs.now) in
    sym (ap (λ n. list_all passes (range_with_len 0 n)) (sym c.width-wide.ensures)
    ∙ one_fails passes c.width-wide.result c.loop-column.column c.loop-column-test.true (sym c.is_kept_key.ensures ∙ c.if-not-is_kept_key.true))

pub returns : goal.returns
returns c =
    let passes = is_kept_key (plan_of c.args.part.now) (map output_of c.args.outputs.now) in
    sym (ap (λ n. list_all passes (range_with_len 0 n)) (sym c.width-wide.ensures)
    ∙ all_from_each passes c.width-wide.result (λ k less. c.loop-column.invariant k (let done = c.loop-column-test.false in omega (arith, less, done))))
