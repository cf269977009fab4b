use Rattle.std.proofs.Common.{◌&&◌, sym, ◌∙◌}
use Rattle.cy_trees.specs.TreeModels.{expression_of}
use Rattle.cy_network_parts.specs.SameConditions.{same_operand}
use Rattle.cy_network_parts.proofs.SameConditions.{binary_of, membership}
use Rattle.cy_network_parts.proofs.same_conditions.+same_condition.Goals as goal

pub returns-then-are_in : goal.returns-then-are_in
returns-then-are_in t c =
    let at = c.in-Binary-Binary in
    c.same_operands.ensures
    ∙ (λ i. same_operand (expression_of (c.deref-then-are_in.ensures i)) (expression_of (c.deref-then-are_in-3.ensures i)) && same_operand (expression_of (c.deref-then-are_in-2.ensures i)) (expression_of (c.deref-then-are_in-4.ensures i)))
    ∙ membership c.args.deep (expression_of c.args.test.now) (expression_of c.args.other.now) at.operator at.wanted (expression_of at.left.value) (expression_of at.right.value) (expression_of at.first.value) (expression_of at.second.value)
    (binary_of c.args.test.now at.operator at.left at.right at.is-0) (binary_of c.args.other.now at.wanted at.first at.second at.is-1) c.if-deep-eq0.false (sym c.are_and.ensures ∙ c.if-are_and.false) (sym c.are_in.ensures ∙ c.if-are_in.true)
