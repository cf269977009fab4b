-- What is left of both settles the answer.
use Rattle.std.proofs.Common.{◌≡◌, drop, map}
use Rattle.cy_trees.specs.TreeModels.{expression_of, expressions_from, links_from, link_of, arms_from, arm_of}
use Rattle.cy_scope_kinds.specs.Same as spec
use Rattle.cy_scope_kinds.proofs.sameness.+same.Given as goal

abbrev pub invariant-same_expressions-loop-element : goal.invariant-same_expressions-loop-element
invariant-same_expressions-loop-element l =
    spec.same_expressions (expressions_from (map expression_of (drop l.element-index l.left))) (expressions_from (map expression_of l.others.rest.now)) ≡ spec.same_expressions (expressions_from (map expression_of l.left)) (expressions_from (map expression_of l.right))

abbrev pub invariant-same_links-loop-link : goal.invariant-same_links-loop-link
invariant-same_links-loop-link l =
    spec.same_links (links_from (map link_of (drop l.link-index l.left))) (links_from (map link_of l.others.rest.now)) ≡ spec.same_links (links_from (map link_of l.left)) (links_from (map link_of l.right))

abbrev pub invariant-same_arms-loop-arm : goal.invariant-same_arms-loop-arm
invariant-same_arms-loop-arm l =
    spec.same_arms (arms_from (map arm_of (drop l.arm-index l.left))) (arms_from (map arm_of l.others.rest.now)) ≡ spec.same_arms (arms_from (map arm_of l.left)) (arms_from (map arm_of l.right))
