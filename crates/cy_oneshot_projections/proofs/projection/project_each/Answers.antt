use Rattle.std.proofs.Common.{refl, List, map, sym, subst, ◌∙◌, ap}
use Rattle.std.specs.Vec.Iter.{into_iter_items}
use Rattle.std.proofs.lemmas.List.{nil_from_length}
use Rattle.cy_values.specs.declared.rows.Cell.{Cell}
use Rattle.cy_trees.specs.Trees.{Expression}
use Rattle.cy_trees.specs.TreeModels.{expression_of}
use Rattle.cy_oneshot_patterns.specs.Outcomes.{together, gathered}
use Rattle.cy_oneshot_meaning.specs.Reading.{AreInGraph}
use Rattle.cy_oneshot_meaning.specs.internal.Answers.{IsAnswer}
use Rattle.cy_oneshot_meaning.specs.internal.Seen.{seen_by}
use Rattle.cy_oneshot_projections.proofs.RowsThere.{seen_answer_there}
use Rattle.cy_oneshot_meaning.proofs.Together.{answered_same, finished, goes_on, goes_through, single, together_first}
use Rattle.cy_oneshot_projections.proofs.projection.project_each.Goals as goal

pub loop-row-init : goal.loop-row-init
loop-row-init c = rw (c.in_ok-seen.ensures, c.into_iter-row-iterator.ensures.into_iter_gives.0) (together_first _, c.requires)

pub project-outcome-requires : goal.project-outcome-requires
project-outcome-requires c = (subst (λ (l : List (List Cell)). AreInGraph c.args.store.now.graph.now.content l) c.in-Some.ensures.steps.0 c.loop-row.invariant.1).0

pub loop-row-preserved : goal.loop-row-preserved
loop-row-preserved c =
    let graph = c.args.store.now.graph.now.content in
    let of = seen_by graph (map (λ e. expression_of e.now) c.in_ok-expressions.expressions.items) in
    let deref = c.deref.ensures.value in (
      goes_on (λ (l : List (List Cell)). gathered (map of l)) (λ x. single (of x)) (λ x xs. refl) c.loop-row.seen c.add.new.self _ c.in-Some.row (into_iter_items c.next.new.self) (into_iter_items c.loop-row.row-iterator)
          c.in-Some.ensures.steps.0
          (c.in_ok-add.ensures.ok ∙ ap (λ o. together c.loop-row.seen (single o)) (answered_same c.project-outcome.result _ (rw deref at c.project-outcome.ensures) c.in_ok-add.ensures.settled))
          c.loop-row.invariant.0,
      (subst (λ (l : List (List Cell)). AreInGraph graph l) c.in-Some.ensures.steps.0 c.loop-row.invariant.1).1,
    )

pub returns-clause-meant : goal.returns-clause-meant
returns-clause-meant c =
    let graph = c.args.store.now.graph.now.content in
    let of = seen_by graph (map (λ e. expression_of e.now) c.in_ok-expressions.expressions.items) in
    let left = into_iter_items c.loop-row.row-iterator in
    let none = nil_from_length left (sym c.loop-row.row-iterator.rest.ok.0 ∙ c.in-None.ensures.steps.0) in
    subst (λ (es : List Expression). IsAnswer c.finish.result (λ seen. seen.items) (gathered (map (seen_by graph es) c.args.rows.items))) c.in_ok-expressions.ensures
    (finished (λ seen. seen.items) c.finish.result c.loop-row.seen _ c.finish.ensures
    (goes_through (λ (l : List (List Cell)). gathered (map of l)) (λ x. single (of x)) (λ x xs. refl) refl c.loop-row.seen _ left none c.loop-row.invariant.0))

pub returns-clause-there : goal.returns-clause-there
returns-clause-there c =
    let graph = c.args.store.now.graph.now.content in
    let es = map (λ e. expression_of e.now) c.in_ok-expressions.expressions.items in
    let of = seen_by graph es in
    let left = into_iter_items c.loop-row.row-iterator in
    let none = nil_from_length left (sym c.loop-row.row-iterator.rest.ok.0 ∙ c.in-None.ensures.steps.0) in
    seen_answer_there graph (λ seen. seen.items) es c.args.rows.items c.finish.result c.requires
    (finished (λ seen. seen.items) c.finish.result c.loop-row.seen _ c.finish.ensures
    (goes_through (λ (l : List (List Cell)). gathered (map of l)) (λ x. single (of x)) (λ x xs. refl) refl c.loop-row.seen _ left none c.loop-row.invariant.0))
