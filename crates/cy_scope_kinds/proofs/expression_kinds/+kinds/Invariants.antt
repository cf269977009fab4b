-- The parts that are left settle the answer.
use Rattle.std.proofs.Common.{◌≡◌, drop, map}
use Rattle.cy_trees.specs.TreeModels.{expression_of, expressions_from, arms_from, arm_of}
use Rattle.cy_scope_kinds.specs.ExpressionKinds as spec
use Rattle.cy_scope_kinds.proofs.expression_kinds.+kinds.Given as goal

abbrev pub invariant-are_flags-loop-element : goal.invariant-are_flags-loop-element
invariant-are_flags-loop-element l =
    spec.are_flags l.scope (expressions_from (map expression_of (drop l.element-index l.elements))) ≡ spec.are_flags l.scope (expressions_from (map expression_of l.elements))

abbrev pub invariant-gives_flags-loop-arm : goal.invariant-gives_flags-loop-arm
invariant-gives_flags-loop-arm l =
    spec.gives_flags l.scope (arms_from (map arm_of (drop l.arm-index l.arms))) ≡ spec.gives_flags l.scope (arms_from (map arm_of l.arms))
