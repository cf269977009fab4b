use Rattle.std.proofs.Common.{refl, sym, ◌∙◌, ap}
use Rattle.std.specs.Vec.Iter.{into_iter_items}
use Rattle.std.proofs.lemmas.List.{nil_from_length}
use Rattle.cy_expr.specs.Operators.{value_in_cell}
use Rattle.cy_oneshot_meaning.specs.Groups.{values_in}
use Rattle.cy_oneshot_patterns.specs.Outcomes.{together}
use Rattle.cy_oneshot_meaning.proofs.Together.{finished, goes_on, goes_through, single, together_first}
use Rattle.cy_oneshot_projections.proofs.aggregates.values_in.Goals as goal

pub loop-cell-init : goal.loop-cell-init
loop-cell-init c = rw (c.in_ok-values.ensures, c.into_iter-cell-iterator.ensures.into_iter_gives.0) (together_first _)

pub loop-cell-preserved : goal.loop-cell-preserved
loop-cell-preserved c =
    goes_on values_in (λ x. single (value_in_cell x)) (λ x xs. refl) c.loop-cell.values c.add.new.self _ c.in-Some.cell (into_iter_items c.next.new.self) (into_iter_items c.loop-cell.cell-iterator) c.in-Some.ensures.steps.0
    (c.in_ok-add.ensures.ok ∙ ap (λ o. together c.loop-cell.values (single o)) c.value_in-outcome.ensures) c.loop-cell.invariant

pub returns : goal.returns
returns c =
    let left = into_iter_items c.loop-cell.cell-iterator in
    let none = nil_from_length left (sym c.loop-cell.cell-iterator.rest.ok.0 ∙ c.in-None.ensures.steps.0) in
    finished (λ values. values.items) c.finish.result c.loop-cell.values _ c.finish.ensures
    (goes_through values_in (λ x. single (value_in_cell x)) (λ x xs. refl) refl c.loop-cell.values _ left none c.loop-cell.invariant)
