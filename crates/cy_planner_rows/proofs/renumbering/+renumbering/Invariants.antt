-- The parts so far.
use Rattle.std.proofs.Common.{◌≡◌, map, take}
use Rattle.cy_trees.specs.TreeModels.{expression_of, link_of, arm_of}
use Rattle.cy_planner_rows.specs.Renumbered.{renumbered, renumbered_arm, renumbered_link}
use Rattle.cy_planner_rows.proofs.renumbering.+renumbering.Given as goal

abbrev pub invariant-renumber_elements-loop-element : goal.invariant-renumber_elements-loop-element
invariant-renumber_elements-loop-element l = map expression_of l.made.items ≡ map (renumbered l.columns) (map expression_of (take l.element-index l.elements))

abbrev pub invariant-renumber_links-loop-link : goal.invariant-renumber_links-loop-link
invariant-renumber_links-loop-link l = map link_of l.made.items ≡ map (renumbered_link l.columns) (map link_of (take l.link-index l.links))

abbrev pub invariant-renumber_arms-loop-arm : goal.invariant-renumber_arms-loop-arm
invariant-renumber_arms-loop-arm l = map arm_of l.made.items ≡ map (renumbered_arm l.columns) (map arm_of (take l.arm-index l.arms))
