use Rattle.std.proofs.Common.{List, map, sym, ap, ◌∙◌, arith}
use Rattle.std.proofs.lemmas.List.{take_all}
use Rattle.std.proofs.lemmas.Simd.{map-map}
use Rattle.cy_trees.specs.declared.clauses.Key as coded
use Rattle.cy_trees.specs.Trees.{Key}
use Rattle.cy_trees.specs.TreeModels.{item_of, key_of}
use Rattle.cy_oneshot_meaning.specs.Projection.{item_of_key}
use Rattle.cy_oneshot_projections.specs.SortKeys.{sort_key_of}
use Rattle.cy_oneshot_projections.proofs.ProjectionAnswers.{made_more}
use Rattle.cy_oneshot_projections.proofs.projection.placed_keys.Goals as goal

pub loop-key-preserved : goal.loop-key-preserved
loop-key-preserved c =
    let items = map item_of c.args.projection.now.items.items in
    let all = c.deref-key-items.ensures.value in
    let less = rw all at c.loop-key-test.true in
    let is = rw all at c.key-item.is in
    let place = rw c.deref.ensures.value at c.in_ok-place.ensures in
    made_more sort_key_of (λ (k : coded.Key). (item_of_key items (key_of k), key_of k)) c.loop-key.keys.items c.push.new.self.items _ c.args.projection.now.order.items c.loop-key.key-index
    c.key-item.result less is c.in_ok-push.ensures.items (λ j. (place j, key_of c.key-item.result)) c.loop-key.invariant

pub returns : goal.returns
returns c =
    let items = map item_of c.args.projection.now.items.items in
    let order = c.args.projection.now.order in
    c.loop-key.invariant
    ∙ ap (λ (l : List coded.Key). map (λ k. (item_of_key items (key_of k), key_of k)) l) (take_all c.loop-key.key-index order.items (omega (arith, order.ok.0)))
    ∙ sym (map-map (λ (k : Key). (item_of_key items k, k)) key_of order.items)

pub place_of_key-requires : goal.place_of_key-requires
place_of_key-requires c = rw c.deref.ensures.value c.requires
