use Rattle.std.proofs.Common.{refl, List, map, sym, subst, ◌∙◌, ap}
use Rattle.std.specs.Vec.Iter.{into_iter_items}
use Rattle.std.proofs.lemmas.List.{nil_from_length}
use Rattle.cy_values.specs.declared.rows.Cell.{Cell}
use Rattle.cy_trees.specs.TreeModels.{expression_of}
use Rattle.cy_oneshot_patterns.specs.Matching.{unwound}
use Rattle.cy_oneshot_patterns.specs.Outcomes.{together, joined}
use Rattle.cy_oneshot_meaning.specs.Reading.{AreInGraph}
use Rattle.cy_oneshot_meaning.proofs.Together.{answered, finished, goes_on, goes_through, together_first}
use Rattle.cy_oneshot.specs.Carried.{carried}
use Rattle.cy_oneshot.proofs.Carried.{carried_first}
use Rattle.cy_oneshot.proofs.unwinding.unwound.Goals as goal

pub loop-row-init : goal.loop-row-init
loop-row-init c = rw (c.new-unwound.ensures, c.into_iter-row-iterator.ensures.into_iter_gives.0) (together_first _, c.requires)

pub unwound_row-outcome-requires : goal.unwound_row-outcome-requires
unwound_row-outcome-requires c = (subst (λ (l : List (List Cell)). AreInGraph c.args.store.now.graph.now.content l) c.in-Some.ensures.steps.0 c.loop-row.invariant.1).0

pub loop-row-preserved : goal.loop-row-preserved
loop-row-preserved c =
    let graph = c.args.store.now.graph.now.content in
    let needed = c.args.needed.now in
    let unwinds = unwound graph (expression_of c.args.list.now) in (
      goes_on (λ (l : List (List Cell)). carried needed (joined (map unwinds l))) (λ row. carried needed (unwinds row)) (carried_first needed unwinds) c.loop-row.unwound c.add_all.new.self _ c.in-Some.row (into_iter_items c.next.new.self) (into_iter_items c.loop-row.row-iterator)
          c.in-Some.ensures.steps.0
          (c.in_ok-add_all.ensures.ok ∙ ap (together c.loop-row.unwound) (answered (λ rows. rows.items) c.unwound_row-outcome.result _ c.unwound_row-outcome.ensures c.in_ok-add_all.ensures.settled))
          c.loop-row.invariant.0,
      (subst (λ (l : List (List Cell)). AreInGraph graph l) c.in-Some.ensures.steps.0 c.loop-row.invariant.1).1,
    )

pub returns : goal.returns
returns c =
    let needed = c.args.needed.now in
    let unwinds = unwound c.args.store.now.graph.now.content (expression_of c.args.list.now) in
    let left = into_iter_items c.loop-row.row-iterator in
    let none = nil_from_length left (sym c.loop-row.row-iterator.rest.ok.0 ∙ c.in-None.ensures.steps.0) in
    finished (λ rows. rows.items) c.finish.result c.loop-row.unwound _ c.finish.ensures
    (goes_through (λ (l : List (List Cell)). carried needed (joined (map unwinds l))) (λ row. carried needed (unwinds row)) (carried_first needed unwinds) refl c.loop-row.unwound _ left none c.loop-row.invariant.0)
