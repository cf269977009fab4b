use Rattle.std.proofs.Common.{ℕ, ◌+◌, List, ◌∷◌, [], ◌++◌, arith, ap, sym, subst, ◌∙◌}
use Rattle.std.specs.Ordering.{ordering_reverse}
use Rattle.cy_values.specs.declared.rows.Cell.{Cell}
use Rattle.cy_bags.proofs.Merging.{IsMerged, both_bounded, both_first, from_place, left_first, right_first}
use Rattle.cy_bags.proofs.sums.sum.Goals as goal

pub loop-i-preserved-in-Less : goal.loop-i-preserved-in-Less
loop-i-preserved-in-Less c =
    let x = c.index-left-i.result in
    let y = c.index-right-j.result in
    subst (λ (out : List (List Cell × ℕ)). IsMerged c.args.left.now c.args.right.now out (c.loop-i.i + 1) c.loop-i.j)
    (sym (c.in_ok-push-in-Less.ensures.items ∙ ap (λ (row : List Cell). c.loop-i.sum.items ++ (row, x.1) ∷ []) c.in_ok-copy-in-Less.ensures))
    (left_first c.args.left.now c.args.right.now c.loop-i.sum.items c.loop-i.i c.loop-i.j x y c.loop-i.invariant
    (from_place c.args.left.now c.loop-i.i x c.loop-i-test.true c.index-left-i.is) (from_place c.args.right.now c.loop-i.j y c.if-j-right.true c.index-right-j.is)
    (sym c.row_order.ensures ∙ c.in-Less.is) c.loop-i-test.true)

pub loop-i-preserved-in-Greater : goal.loop-i-preserved-in-Greater
loop-i-preserved-in-Greater c =
    let x = c.index-left-i.result in
    let y = c.index-right-j.result in
    subst (λ (out : List (List Cell × ℕ)). IsMerged c.args.left.now c.args.right.now out c.loop-i.i (c.loop-i.j + 1))
    (sym (c.in_ok-push-in-Greater.ensures.items ∙ ap (λ (row : List Cell). c.loop-i.sum.items ++ (row, y.1) ∷ []) c.in_ok-copy-in-Greater.ensures))
    (right_first c.args.left.now c.args.right.now c.loop-i.sum.items c.loop-i.i c.loop-i.j x y c.loop-i.invariant
    (from_place c.args.left.now c.loop-i.i x c.loop-i-test.true c.index-left-i.is) (from_place c.args.right.now c.loop-i.j y c.if-j-right.true c.index-right-j.is)
    (c.row_order_laws.ensures.total.antisymm y.0 x.0 ∙ ap ordering_reverse (sym c.row_order.ensures ∙ c.in-Greater.is)) c.if-j-right.true)

pub overflow_add-count : goal.overflow_add-count
overflow_add-count c =
    let laws = c.row_order_laws.ensures in
    let x = c.index-left-i.result in
    let y = c.index-right-j.result in
    omega (
      arith,
      both_bounded laws.total (λ a b. (laws.identity a b).0) c.args.left.now c.args.right.now c.requires.left c.requires.right c.loop-i.i c.loop-i.j x y c.loop-i-test.true c.if-j-right.true
          c.index-left-i.is c.index-right-j.is (sym c.row_order.ensures ∙ c.in-Equal.is) c.requires.bounded,
    )

pub loop-i-preserved : goal.loop-i-preserved
loop-i-preserved c =
    let laws = c.row_order_laws.ensures in
    let x = c.index-left-i.result in
    let y = c.index-right-j.result in
    subst (λ (out : List (List Cell × ℕ)). IsMerged c.args.left.now c.args.right.now out (c.loop-i.i + 1) (c.loop-i.j + 1))
    (sym (c.in_ok-push-in-Equal.ensures.items ∙ ap (λ (row : List Cell). c.loop-i.sum.items ++ (row, x.1 + y.1) ∷ []) c.in_ok-copy-in-Equal.ensures))
    (both_first c.args.left.now c.args.right.now c.loop-i.sum.items c.loop-i.i c.loop-i.j x y c.loop-i.invariant
    (from_place c.args.left.now c.loop-i.i x c.loop-i-test.true c.index-left-i.is) (from_place c.args.right.now c.loop-i.j y c.if-j-right.true c.index-right-j.is)
    ((laws.identity x.0 y.0).0 (sym c.row_order.ensures ∙ c.in-Equal.is)) c.loop-i-test.true c.if-j-right.true)
