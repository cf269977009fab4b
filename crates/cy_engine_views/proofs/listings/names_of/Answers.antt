use Rattle.std.proofs.Common.{List, map, sym, ap, ◌∙◌}
use Rattle.std.proofs.lemmas.List.{take_all}
use Rattle.std.proofs.lemmas.Simd.{map-map}
use Rattle.cy_trees.specs.declared.clauses.Item as coded
use Rattle.cy_trees.specs.Trees.{Item}
use Rattle.cy_trees.specs.TreeModels.{item_of}
use Rattle.cy_engine_views.proofs.listings.names_of.Goals as goal

pub returns : goal.returns
returns c =
    let items = c.args.items.now in
    c.loop-item.invariant
    ∙ ap (λ (l : List coded.Item). map (λ i. i.column) l) (take_all c.loop-item.item-index items c.loop-item-test.false)
    ∙ sym (map-map (λ (i : Item). i.column) item_of items)
