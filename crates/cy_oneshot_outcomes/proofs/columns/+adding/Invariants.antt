-- The parts that are left settle the columns.
use Rattle.std.proofs.Common.{◌≡◌, drop, map}
use Rattle.cy_trees.specs.TreeModels.{expression_of, expressions_from, links_from, link_of, arms_from, arm_of}
use Rattle.cy_oneshot_outcomes.specs.internal.Collected as spec
use Rattle.cy_oneshot_outcomes.proofs.columns.+adding.Given as goal

abbrev pub invariant-add_of_elements-loop-element : goal.invariant-add_of_elements-loop-element
invariant-add_of_elements-loop-element l =
    spec.with_elements l.columns.items (expressions_from (map expression_of (drop l.element-index l.elements))) ≡ spec.with_elements l.fn.columns.items (expressions_from (map expression_of l.elements))

abbrev pub invariant-add_of_links-loop-link : goal.invariant-add_of_links-loop-link
invariant-add_of_links-loop-link l =
    spec.with_links l.columns.items (links_from (map link_of (drop l.link-index l.links))) ≡ spec.with_links l.fn.columns.items (links_from (map link_of l.links))

abbrev pub invariant-add_of_arms-loop-arm : goal.invariant-add_of_arms-loop-arm
invariant-add_of_arms-loop-arm l =
    spec.with_arms l.columns.items (arms_from (map arm_of (drop l.arm-index l.arms))) ≡ spec.with_arms l.fn.columns.items (arms_from (map arm_of l.arms))
