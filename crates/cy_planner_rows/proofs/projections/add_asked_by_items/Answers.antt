use Rattle.std.proofs.Common.{◌+◌, List, map, drop, sym, ap, ◌∙◌}
use Rattle.std.specs.Prelude.{flat_map}
use Rattle.cy_trees.specs.declared.clauses.Item.{Item}
use Rattle.cy_trees.specs.TreeModels.{expression_of}
use Rattle.cy_planner_rows.specs.declared.places.Wanted.{Wanted}
use Rattle.cy_planner_rows.specs.internal.Asked.{asked, with_asked}
use Rattle.cy_planner_rows.proofs.AskedLists.{next_of, tree_is, with_more_asked}
use Rattle.cy_planner_rows.proofs.projections.add_asked_by_items.Goals as goal

pub loop-item-preserved : goal.loop-item-preserved
loop-item-preserved c =
    let all = c.args.items.now in
    let i = c.loop-item.item-index in
    let rest = flat_map asked (map (λ (i : Item). expression_of i.expression) (drop (i + 1) all)) in
    ap (λ (w : List Wanted). with_asked w rest) (c.in_ok-add_asked.ensures ∙ tree_is c.loop-item.wanted (expression_of c.item-item.result.expression))
    ∙ sym (with_more_asked c.loop-item.wanted (asked (expression_of c.item-item.result.expression)) rest)
    ∙ ap (λ (l : List Item). with_asked c.loop-item.wanted (flat_map asked (map (λ i. expression_of i.expression) l)))
    (sym (next_of all i c.item-item.result c.loop-item-test.true c.item-item.is))
    ∙ c.loop-item.invariant
