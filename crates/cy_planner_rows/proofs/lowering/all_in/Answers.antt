use Rattle.std.proofs.Common.{◌∷◌, List, map, true, false, arith, ap, ◌∙◌}
use Rattle.std.proofs.lemmas.List.{take_all}
use Rattle.cy_trees.specs.declared.expressions.BinaryOperator.TheVariants.{In}
use Rattle.cy_trees.specs.declared.expressions.UnaryOperator.TheVariants.{IsNull, Not}
use Rattle.cy_trees.specs.Trees.{Name, binary, boolean, null, text, unary}
use Rattle.cy_trees.specs.TreeModels.{expression_of}
use Rattle.cy_planner_rows.proofs.LoweredLists.{all_in_by_arms, boolean_is}
use Rattle.cy_planner_rows.proofs.lowering.all_in.Goals as goal

pub returns : goal.returns
returns c =
    let labels = expression_of c.args.labels.now in
    all_in_by_arms labels c.args.asked.now c.loop-label.arms c.in_ok-new-2.field-0 (λ e. omega (arith, e))
    (c.loop-label.invariant
    ∙ ap (λ (asked : List Name). (unary IsNull labels, null) ∷ map (λ label. (unary Not (binary In (text label) labels), boolean false)) asked)
    (take_all c.loop-label.label-index c.args.asked.now c.loop-label-test.false))
    (ap expression_of c.in_ok-new-2.ensures.ok ∙ boolean_is true)
