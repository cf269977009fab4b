use Rattle.std.proofs.Common.{refl, List, map, sym, subst, ◌∙◌, ap}
use Rattle.std.specs.List.{AllByRecursion}
use Rattle.std.specs.Vec.Iter.{into_iter_items}
use Rattle.std.proofs.lemmas.List.{nil_from_length}
use Rattle.cy_trees.specs.TreeModels.{item_of}
use Rattle.cy_oneshot_patterns.specs.Outcomes.{together, gathered}
use Rattle.cy_oneshot_meaning.specs.Reading.{AreInGraph}
use Rattle.cy_oneshot_projections.specs.declared.groups.Group.{Group}
use Rattle.cy_oneshot_projections.specs.internal.Keys.{group_of}
use Rattle.cy_oneshot_projections.proofs.Aggregated.{row_of}
use Rattle.cy_oneshot_meaning.proofs.Together.{answered_same, finished, goes_on, goes_through, single, together_first}
use Rattle.cy_oneshot_projections.proofs.groups.group_rows.Goals as goal

pub loop-group-init : goal.loop-group-init
loop-group-init c = rw (c.in_ok-made.ensures, c.into_iter-group-iterator.ensures.into_iter_gives.0) (together_first _, c.requires)

pub group_row-outcome-requires : goal.group_row-outcome-requires
group_row-outcome-requires c =
    (subst (λ (l : List Group). AllByRecursion (λ g. AreInGraph c.args.store.now.graph.now.content g.rows.items) l) c.in-Some.ensures.steps.0 c.loop-group.invariant.1).0

pub loop-group-preserved : goal.loop-group-preserved
loop-group-preserved c =
    let graph = c.args.store.now.graph.now.content in
    let items = map item_of c.args.items.now in
    let of = λ (g : Group). row_of graph items (group_of g) in (
      goes_on (λ (l : List Group). gathered (map (row_of graph items) (map group_of l))) (λ g. single (of g)) (λ x xs. refl) c.loop-group.made c.add.new.self _ c.in-Some.group (into_iter_items c.next.new.self)
          (into_iter_items c.loop-group.group-iterator) c.in-Some.ensures.steps.0
          (c.in_ok-add.ensures.ok ∙ ap (λ o. together c.loop-group.made (single o)) (answered_same c.group_row-outcome.result _ c.group_row-outcome.ensures c.in_ok-add.ensures.settled))
          c.loop-group.invariant.0,
      (subst (λ (l : List Group). AllByRecursion (λ g. AreInGraph graph g.rows.items) l) c.in-Some.ensures.steps.0 c.loop-group.invariant.1).1,
    )

pub returns : goal.returns
returns c =
    let graph = c.args.store.now.graph.now.content in
    let items = map item_of c.args.items.now in
    let left = into_iter_items c.loop-group.group-iterator in
    let none = nil_from_length left (sym c.loop-group.group-iterator.rest.ok.0 ∙ c.in-None.ensures.steps.0) in
    finished (λ made. made.items) c.finish.result c.loop-group.made _ c.finish.ensures
    (goes_through (λ (l : List Group). gathered (map (row_of graph items) (map group_of l))) (λ g. single (row_of graph items (group_of g))) (λ x xs. refl) refl c.loop-group.made _ left none c.loop-group.invariant.0)
