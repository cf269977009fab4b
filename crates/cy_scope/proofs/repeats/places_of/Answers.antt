use Rattle.std.proofs.Common.{rules, ◌+◌, ◌<◌, ◌≤◌, length, take, subst, sym, ap, ◌∙◌}
use Rattle.std.specs.List.{All}
use Rattle.cy_trees.specs.TreeModels.{expression_of}
use Rattle.cy_scope_kinds.specs.internal.TreeWords.{words_of}
use Rattle.cy_scope.proofs.TreeWordsLemmas.{IsPlaced, placed_more, placed_all}
use Rattle.cy_scope.proofs.repeats.places_of.Goals as goal

pub loop-place-preserved : goal.loop-place-preserved
loop-place-preserved c =
    let items = c.args.items.now in
    let place = c.loop-place.place in
    let item = c.index-items-place.result in
    let inside : place < length items = search rules in
    subst (λ es. All (IsPlaced es) (take (place + 1) items)) (sym c.in_ok-insert.ensures.entries)
    (placed_more c.loop-place.places.entries items place item c.in_ok-words.words inside (c.in_ok-words.ensures ∙ ap (λ i. words_of (expression_of i.expression)) c.index-items-place.is) c.loop-place.invariant)

pub returns : goal.returns
returns c =
    let ends : length c.args.items.now ≤ c.loop-place.place = search rules in
    placed_all c.loop-place.places.entries c.args.items.now c.loop-place.place ends c.loop-place.invariant
