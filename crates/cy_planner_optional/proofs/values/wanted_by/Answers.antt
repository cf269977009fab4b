use Rattle.std.proofs.Common.{◌+◌, List, map, drop, sym, ap, ◌∙◌}
use Rattle.std.specs.Prelude.{flat_map}
use Rattle.cy_trees.specs.TreeModels.{expression_of}
use Rattle.cy_planner_rows.specs.declared.places.Wanted.{Wanted}
use Rattle.cy_planner_rows.specs.internal.Asked.{asked, with_asked}
use Rattle.cy_planner_rows.proofs.AskedLists.{next_of, tree_is, with_more_asked}
use Rattle.cy_planner_optional.proofs.values.wanted_by.Goals as goal

pub loop-expression-preserved : goal.loop-expression-preserved
loop-expression-preserved c =
    let all = c.args.expressions.now in
    let i = c.loop-expression.expression-index in
    let one = c.expression-item.result in
    let rest = flat_map asked (map (λ e. expression_of e.now) (drop (i + 1) all)) in
    ap (λ (w : List Wanted). with_asked w rest) (c.in_ok-add_asked.ensures ∙ tree_is c.loop-expression.wanted (expression_of one.now))
    ∙ sym (with_more_asked c.loop-expression.wanted (asked (expression_of one.now)) rest)
    ∙ ap (λ l. with_asked c.loop-expression.wanted (flat_map asked (map (λ e. expression_of e.now) l))) (sym (next_of all i one c.loop-expression-test.true c.expression-item.is))
    ∙ c.loop-expression.invariant
