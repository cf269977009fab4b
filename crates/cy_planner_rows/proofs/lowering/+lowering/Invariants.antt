-- The parts so far.
use Rattle.std.proofs.Common.{◌≡◌, map, take}
use Rattle.cy_trees.specs.TreeModels.{expression_of, link_of, arm_of}
use Rattle.cy_planner_rows.specs.internal.Lowered.{lowered, lowered_arm, lowered_link}
use Rattle.cy_planner_rows.specs.Places.{place}
use Rattle.cy_planner_rows.proofs.lowering.+lowering.Given as goal

abbrev pub invariant-lower_elements-loop-element : goal.invariant-lower_elements-loop-element
invariant-lower_elements-loop-element l = map expression_of l.made.items ≡ map (lowered (place l.first l.wanted)) (map expression_of (take l.element-index l.elements))

abbrev pub invariant-lower_links-loop-link : goal.invariant-lower_links-loop-link
invariant-lower_links-loop-link l = map link_of l.made.items ≡ map (lowered_link (place l.first l.wanted)) (map link_of (take l.link-index l.links))

abbrev pub invariant-lower_arms-loop-arm : goal.invariant-lower_arms-loop-arm
invariant-lower_arms-loop-arm l = map arm_of l.made.items ≡ map (lowered_arm (place l.first l.wanted)) (map arm_of (take l.arm-index l.arms))
