use Rattle.std.proofs.Common.{refl, List, map, sym, subst, ◌∙◌, ap}
use Rattle.std.specs.Vec.Iter.{into_iter_items}
use Rattle.std.proofs.lemmas.List.{nil_from_length}
use Rattle.cy_values.specs.declared.rows.Cell.{Cell}
use Rattle.cy_oneshot_patterns.specs.Outcomes.{together, gathered}
use Rattle.cy_oneshot_meaning.specs.Reading.{AreInGraph}
use Rattle.cy_oneshot_meaning.specs.internal.Answers.{on_value}
use Rattle.cy_oneshot_meaning.specs.internal.Seen.{keyed_by, projected_of}
use Rattle.cy_oneshot_projections.specs.SortKeys.{sort_key_of}
use Rattle.cy_oneshot_projections.specs.internal.Keys.{keyed_of}
use Rattle.cy_oneshot_meaning.proofs.Together.{answered, finished_as, goes_on, goes_through, made_single, made_together, single, together_first}
use Rattle.cy_oneshot_projections.proofs.projection.keyed_rows.Goals as goal

pub loop-seen-init : goal.loop-seen-init
loop-seen-init c = rw (c.in_ok-keyed.ensures, c.into_iter-seen-iterator.ensures.into_iter_gives.0) (together_first _, c.requires)

pub keyed_row-outcome-requires : goal.keyed_row-outcome-requires
keyed_row-outcome-requires c = (subst (λ (l : List (List Cell)). AreInGraph c.args.store.now.graph.now.content l) c.in-Some.ensures.steps.0 c.loop-seen.invariant.1).0

pub loop-seen-preserved : goal.loop-seen-preserved
loop-seen-preserved c =
    let graph = c.args.store.now.graph.now.content in
    let keys = map sort_key_of c.args.keys.now in
    let width = c.args.width in
    let so_far = on_value (map keyed_of) c.loop-seen.keyed in
    let outcome = c.keyed_row-outcome.result in (
      goes_on (λ (l : List (List Cell)). gathered (map (keyed_by graph keys) (map (projected_of width) l))) (λ s. single (keyed_by graph keys (projected_of width s))) (λ x xs. refl)
          so_far (on_value (map keyed_of) c.add.new.self) _ c.in-Some.seen (into_iter_items c.next.new.self) (into_iter_items c.loop-seen.seen-iterator) c.in-Some.ensures.steps.0
          (ap (on_value (map keyed_of)) c.in_ok-add.ensures.ok ∙ made_together keyed_of c.loop-seen.keyed (single outcome)
          ∙ ap (together so_far) (made_single keyed_of outcome ∙ ap single (answered keyed_of outcome _ c.keyed_row-outcome.ensures c.in_ok-add.ensures.settled)))
          c.loop-seen.invariant.0,
      (subst (λ (l : List (List Cell)). AreInGraph graph l) c.in-Some.ensures.steps.0 c.loop-seen.invariant.1).1,
    )

pub returns : goal.returns
returns c =
    let graph = c.args.store.now.graph.now.content in
    let keys = map sort_key_of c.args.keys.now in
    let width = c.args.width in
    let left = into_iter_items c.loop-seen.seen-iterator in
    let none = nil_from_length left (sym c.loop-seen.seen-iterator.rest.ok.0 ∙ c.in-None.ensures.steps.0) in
    finished_as (λ keyed. keyed.items) keyed_of c.finish.result c.loop-seen.keyed _ c.finish.ensures
    (goes_through (λ (l : List (List Cell)). gathered (map (keyed_by graph keys) (map (projected_of width) l))) (λ s. single (keyed_by graph keys (projected_of width s))) (λ x xs. refl) refl
    (on_value (map keyed_of) c.loop-seen.keyed) _ left none c.loop-seen.invariant.0)
