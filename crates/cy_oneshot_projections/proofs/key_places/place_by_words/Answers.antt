use Rattle.std.proofs.Common.{◌≡◌, true, Some, None, map, sym, ap, ◌∙◌}
use Rattle.std.specs.List.{position_from}
use Rattle.std.specs.Map.{lookup}
use Rattle.std.proofs.lemmas.Option.{slice_get-get_or}
use Rattle.cy_trees.specs.TreeModels.{expression_of, item_of}
use Rattle.cy_scope_kinds.specs.Same.{same}
use Rattle.cy_scope_kinds.specs.internal.TreeWords.{words_of}
use Rattle.cy_oneshot_projections.specs.internal.KeyPlaces.{has, has_words}
use Rattle.cy_oneshot_projections.proofs.KeyPlaces.{first_item, no_item}
use Rattle.cy_oneshot_projections.proofs.key_places.place_by_words.Goals as goal

pub returns-in_default : goal.returns-in_default
returns-in_default c =
    let e = expression_of c.args.expression.now in
    let entries = c.args.places.now.entries in
    let none : position_from (has_words (words_of (expression_of c.args.expression.now))) 0 (map item_of c.args.items.now) ≡ None =
    sym (c.requires (words_of e)) ∙ ap (λ n. lookup (has n) entries) (sym c.in_ok-words.ensures) ∙ ap (λ n. lookup (has n) entries) (sym c.as_slice.ensures.value) ∙ sym c.in_default.ensures.value in
    sym (no_item c.args.items.now e none)

pub returns-then-same : goal.returns-then-same
returns-then-same c =
    let items = c.args.items.now in
    let e = expression_of c.args.expression.now in
    let entries = c.args.places.now.entries in
    let place = c.in-Some.place.now in
    let item = c.in-Some-get.item.now in
    let alike : same (expression_of c.in-Some-get.item.now.expression) (expression_of c.args.expression.now) ≡ true = sym c.same.ensures ∙ c.if-same.true in
    let found : position_from (has_words (words_of (expression_of c.args.expression.now))) 0 (map item_of c.args.items.now) ≡ Some c.in-Some.place.now =
    sym (c.requires (words_of e)) ∙ ap (λ n. lookup (has n) entries) (sym c.in_ok-words.ensures) ∙ ap (λ n. lookup (has n) entries) (sym c.as_slice.ensures.value) ∙ sym c.in-Some.ensures.value in
    sym (first_item items e place item found (slice_get-get_or items place item c.in-Some-get.ensures.lookup.3.0 ∙ ap Some (sym c.in-Some-get.ensures.lookup.1)) alike)
