use Rattle.std.proofs.Common.{◌++◌, List, length, map, sym, ap, ◌∙◌, arith}
use Rattle.std.specs.Vec.Iter.{into_iter_items}
use Rattle.std.proofs.lemmas.List.{append-nil, drop_all, nil_from_length}
use Rattle.cy_values.specs.declared.rows.Cell.{Cell}
use Rattle.cy_oneshot_projections.specs.declared.order.Keyed.{Keyed}
use Rattle.cy_oneshot_projections.proofs.ProjectionAnswers.{skips_on}
use Rattle.cy_oneshot_projections.proofs.projection.rows_from.Goals as goal

pub loop-keyed-preserved : goal.loop-keyed-preserved
loop-keyed-preserved c =
    let row = λ (k : Keyed). k.row in
    skips_on c.loop-keyed.rows.items _ _ c.loop-keyed.left_out _ c.in-Some.keyed.row (map row (into_iter_items c.next.new.self)) (map row (into_iter_items c.loop-keyed.keyed-iterator))
    (ap (map row) c.in-Some.ensures.steps.0) c.in_ok-add_after.ensures.out c.in_ok-add_after.ensures.added c.loop-keyed.invariant

pub returns : goal.returns
returns c =
    let row = λ (k : Keyed). k.row in
    let rows = c.loop-keyed.rows.items in
    let left = into_iter_items c.loop-keyed.keyed-iterator in
    let none = nil_from_length left (sym c.loop-keyed.keyed-iterator.rest.ok.0 ∙ c.in-None.ensures.steps.0) in
    let count = ap (λ (l : List Keyed). length (map row l)) none in
    sym (append-nil rows)
    ∙ ap (λ (l : List (List Cell)). rows ++ l) (sym (drop_all c.loop-keyed.left_out (map row left) (omega (arith, count))))
    ∙ c.loop-keyed.invariant
