-- The arms so far.
use Rattle.std.proofs.Common.{◌≡◌, ◌∷◌, map, take, false}
use Rattle.cy_trees.specs.declared.expressions.BinaryOperator.TheVariants.{In}
use Rattle.cy_trees.specs.declared.expressions.UnaryOperator.TheVariants.{IsNull, Not}
use Rattle.cy_trees.specs.Trees.{binary, boolean, null, text, unary}
use Rattle.cy_trees.specs.TreeModels.{arm_of, expression_of}
use Rattle.cy_planner_rows.proofs.lowering.all_in.Given as goal

abbrev pub invariant-loop-label : goal.invariant-loop-label
invariant-loop-label l =
    map arm_of l.arms.items
    ≡ (unary IsNull (expression_of l.labels), null) ∷ map (λ label. (unary Not (binary In (text label) (expression_of l.labels)), boolean false)) (take l.label-index l.asked)
