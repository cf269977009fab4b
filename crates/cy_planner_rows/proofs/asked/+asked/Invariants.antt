-- What is wanted so far, with what is left to ask.
use Rattle.std.proofs.Common.{◌≡◌, drop, map}
use Rattle.cy_trees.specs.TreeModels.{arm_of, arms_from, expression_of, expressions_from, link_of, links_from}
use Rattle.cy_planner_rows.specs.internal.Asked as spec
use Rattle.cy_planner_rows.proofs.asked.+asked.Given as goal

abbrev pub invariant-add_elements-loop-element : goal.invariant-add_elements-loop-element
invariant-add_elements-loop-element l =
    spec.with_elements l.wanted (expressions_from (map expression_of (drop l.element-index l.elements))) ≡ spec.with_elements l.fn.wanted (expressions_from (map expression_of l.elements))

abbrev pub invariant-add_links-loop-link : goal.invariant-add_links-loop-link
invariant-add_links-loop-link l =
    spec.with_links l.wanted (links_from (map link_of (drop l.link-index l.links))) ≡ spec.with_links l.fn.wanted (links_from (map link_of l.links))

abbrev pub invariant-add_arms-loop-arm : goal.invariant-add_arms-loop-arm
invariant-add_arms-loop-arm l =
    spec.with_arms l.wanted (arms_from (map arm_of (drop l.arm-index l.arms))) ≡ spec.with_arms l.fn.wanted (arms_from (map arm_of l.arms))
