-- The parts that are left settle the answer.
use Rattle.std.proofs.Common.{◌≡◌, drop, map}
use Rattle.cy_trees.specs.TreeModels.{arm_of, arms_from, expression_of, expressions_from, link_of, links_from}
use Rattle.cy_planner_pushdown.specs.internal.Conditions as spec
use Rattle.cy_planner_pushdown.proofs.conditions.+asking.Given as goal

abbrev pub invariant-all_ask_of-loop-element : goal.invariant-all_ask_of-loop-element
invariant-all_ask_of-loop-element l =
    spec.all_ask_of l.scope l.columns (expressions_from (map expression_of (drop l.element-index l.elements))) ≡ spec.all_ask_of l.scope l.columns (expressions_from (map expression_of l.elements))

abbrev pub invariant-arms_ask_of-loop-arm : goal.invariant-arms_ask_of-loop-arm
invariant-arms_ask_of-loop-arm l =
    spec.arms_ask_of l.scope l.columns (arms_from (map arm_of (drop l.arm-index l.arms))) ≡ spec.arms_ask_of l.scope l.columns (arms_from (map arm_of l.arms))

abbrev pub invariant-links_ask_of-loop-link : goal.invariant-links_ask_of-loop-link
invariant-links_ask_of-loop-link l =
    spec.links_ask_of l.scope l.columns (links_from (map link_of (drop l.link-index l.links))) ≡ spec.links_ask_of l.scope l.columns (links_from (map link_of l.links))
