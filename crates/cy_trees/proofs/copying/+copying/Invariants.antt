-- The parts so far are copied.
use Rattle.std.proofs.Common.{◌≡◌, map, take}
use Rattle.cy_trees.specs.TreeModels.{expression_of, link_of, arm_of}
use Rattle.cy_trees.proofs.copying.+copying.Given as goal

abbrev pub invariant-copy_arms-loop-arm : goal.invariant-copy_arms-loop-arm
invariant-copy_arms-loop-arm l = map arm_of l.twins.items ≡ map arm_of (take l.arm-index l.arms)

abbrev pub invariant-copy_elements-loop-element : goal.invariant-copy_elements-loop-element
invariant-copy_elements-loop-element l = map expression_of l.twins.items ≡ map expression_of (take l.element-index l.elements)

abbrev pub invariant-copy_links-loop-link : goal.invariant-copy_links-loop-link
invariant-copy_links-loop-link l = map link_of l.twins.items ≡ map link_of (take l.link-index l.links)
