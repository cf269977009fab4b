-- The parts that are left settle the words.
use Rattle.std.proofs.Common.{◌≡◌, drop, map}
use Rattle.cy_trees.specs.TreeModels.{expression_of, expressions_from, links_from, link_of, arms_from, arm_of}
use Rattle.cy_scope_kinds.specs.internal.TreeWords as spec
use Rattle.cy_scope_kinds.proofs.tree_words.+adding.Given as goal

abbrev pub invariant-add_elements-loop-element : goal.invariant-add_elements-loop-element
invariant-add_elements-loop-element l =
    spec.with_elements l.words.items (expressions_from (map expression_of (drop l.element-index l.elements))) ≡ spec.with_elements l.fn.words.items (expressions_from (map expression_of l.elements))

abbrev pub invariant-add_links-loop-link : goal.invariant-add_links-loop-link
invariant-add_links-loop-link l =
    spec.with_links l.words.items (links_from (map link_of (drop l.link-index l.links))) ≡ spec.with_links l.fn.words.items (links_from (map link_of l.links))

abbrev pub invariant-add_arms-loop-arm : goal.invariant-add_arms-loop-arm
invariant-add_arms-loop-arm l =
    spec.with_arms l.words.items (arms_from (map arm_of (drop l.arm-index l.arms))) ≡ spec.with_arms l.fn.words.items (arms_from (map arm_of l.arms))
