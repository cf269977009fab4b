use Rattle.std.proofs.Common.{◌∙◌, sym, ap, List}
use Rattle.cy_values.specs.declared.scalars.Scalar.{Scalar}
use Rattle.std.proofs.lemmas.List.{drop_all}
use Rattle.cy_values.specs.Truth.{one_at_least}
use Rattle.cy_values.specs.Compare.{equality, lent}
use Rattle.cy_expr.specs.Lists.{equals_one}
use Rattle.cy_expr.proofs.Rules.{or-no, no-or, equals-more}
use Rattle.cy_expr.proofs.lists.equals_one.Goals as goal

pub loop-element-init : goal.loop-element-init
loop-element-init c = no-or (equals_one (lent c.args.value) c.args.elements.now)

pub loop-element-preserved : goal.loop-element-preserved
loop-element-preserved c =
    equals-more c.loop-element.any _ _ (lent c.args.value) c.args.elements.now c.loop-element.element-index c.element-item.result c.loop-element-test.true c.element-item.is (c.equal.ensures ∙ ap (equality (lent c.args.value)) c.view.ensures) c.or-any.ensures
    ∙ c.loop-element.invariant

-- no element is left
pub returns : goal.returns
returns c =
    let so_far = λ (es : List Scalar). one_at_least c.loop-element.any (equals_one (lent c.args.value) es) in
    let none = drop_all c.loop-element.element-index c.args.elements.now c.loop-element-test.false in
    sym (or-no c.loop-element.any) ∙ ap so_far (sym none) ∙ c.loop-element.invariant
