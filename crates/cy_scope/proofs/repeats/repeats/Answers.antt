use Rattle.std.proofs.Common.{◌≡◌, ◌||◌, true, Some, map, sym, ap, ◌∙◌}
use Rattle.std.proofs.lemmas.Option.{slice_get-get_or}
use Rattle.std.specs.Map.{lookup}
use Rattle.cy_trees.specs.TreeModels.{expression_of, item_of}
use Rattle.cy_scope_kinds.specs.Same.{same}
use Rattle.cy_scope.specs.ProjectionFaults as spec
use Rattle.cy_scope.proofs.TreeWordsLemmas.{has, no_repeat, looked_at}
use Rattle.cy_scope.proofs.repeats.repeats.Goals as goal

pub returns-in_default : goal.returns-in_default
returns-in_default c =
    sym (no_repeat c.args.places.now.entries (map item_of c.args.items.now) (expression_of c.args.expression.now) c.requires
    (ap (λ n. lookup (has n) c.args.places.now.entries) (sym c.in_ok-words.ensures) ∙ ap (λ n. lookup (has n) c.args.places.now.entries) (sym c.as_slice.ensures.value) ∙ sym c.in_default.ensures.value))

pub returns-then-same : goal.returns-then-same
returns-then-same c =
    let items = c.args.items.now in
    let e = expression_of c.args.expression.now in
    let item = c.in-Some-get.item.now in
    let alike : same (expression_of item.expression) e ≡ true = sym c.same.ensures ∙ c.if-same.true in
    ap (λ t. t || spec.repeats (map item_of items) e) (sym alike) ∙ looked_at items c.in-Some.place.now item e (slice_get-get_or items c.in-Some.place.now item c.in-Some-get.ensures.lookup.3.0 ∙ ap Some (sym c.in-Some-get.ensures.lookup.1))
