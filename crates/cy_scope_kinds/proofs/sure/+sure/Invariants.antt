-- The parts that are left settle the answer.
use Rattle.std.proofs.Common.{◌≡◌, drop, map}
use Rattle.cy_trees.specs.TreeModels.{expression_of, expressions_from, links_from, link_of, arms_from, arm_of}
use Rattle.cy_scope_kinds.specs.Sure as spec
use Rattle.cy_scope_kinds.proofs.sure.+sure.Given as goal

abbrev pub invariant-are_sure-loop-element : goal.invariant-are_sure-loop-element
invariant-are_sure-loop-element l =
    spec.are_sure l.scope (expressions_from (map expression_of (drop l.element-index l.elements))) ≡ spec.are_sure l.scope (expressions_from (map expression_of l.elements))

abbrev pub invariant-are_sure_arms-loop-arm : goal.invariant-are_sure_arms-loop-arm
invariant-are_sure_arms-loop-arm l =
    spec.are_sure_arms l.scope (arms_from (map arm_of (drop l.arm-index l.arms))) ≡ spec.are_sure_arms l.scope (arms_from (map arm_of l.arms))

abbrev pub invariant-are_sure_elements-loop-element : goal.invariant-are_sure_elements-loop-element
invariant-are_sure_elements-loop-element l =
    spec.are_sure_elements l.scope (expressions_from (map expression_of (drop l.element-index l.elements))) ≡ spec.are_sure_elements l.scope (expressions_from (map expression_of l.elements))

abbrev pub invariant-are_sure_links-loop-link : goal.invariant-are_sure_links-loop-link
invariant-are_sure_links-loop-link l =
    spec.are_sure_links l.scope (links_from (map link_of (drop l.link-index l.links))) ≡ spec.are_sure_links l.scope (links_from (map link_of l.links))
