use Rattle.std.proofs.Common.{List, map, sym, ap, ◌∙◌}
use Rattle.std.proofs.lemmas.List.{take_all}
use Rattle.std.proofs.lemmas.Simd.{map-map}
use Rattle.cy_trees.specs.declared.clauses.Item as coded
use Rattle.cy_trees.specs.Trees.{Item}
use Rattle.cy_trees.specs.TreeModels.{expression_of, item_of}
use Rattle.cy_oneshot_projections.proofs.groups.expressions_of.Goals as goal

pub returns : goal.returns
returns c =
    let items = c.args.items.now in
    c.loop-item.invariant
    ∙ ap (λ (l : List coded.Item). map (λ i. expression_of i.expression) l) (take_all c.loop-item.item-index items c.loop-item-test.false)
    ∙ sym (map-map (λ (i : Item). i.expression) item_of items)
