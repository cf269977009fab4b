-- The parts that are left settle the answer.
use Rattle.std.proofs.Common.{◌≡◌, ◌++◌, ◌&&◌, drop, map}
use Rattle.cy_trees.specs.TreeModels.{expression_of, expressions_from, links_from, link_of, arms_from, arm_of}
use Rattle.cy_scope_kinds.specs.ExpressionKinds.{are_flags, gives_flags}
use Rattle.cy_scope_kinds.specs.ExpressionFaults as spec
use Rattle.cy_scope_kinds.proofs.expression_checks.+checking.Given as goal

abbrev pub invariant-check_elements-loop-element : goal.invariant-check_elements-loop-element
invariant-check_elements-loop-element l =
    let left = expressions_from (map expression_of (drop l.element-index l.elements)) in
    let all = expressions_from (map expression_of l.elements) in
    record {
      fault : spec.expressions_fault (l.front ++ l.back) left ≡ spec.expressions_fault (l.front ++ l.back) all;
      values : (l.values && spec.are_values (l.front ++ l.back) left) ≡ spec.are_values (l.front ++ l.back) all;
    }

abbrev pub invariant-check_links-loop-link : goal.invariant-check_links-loop-link
invariant-check_links-loop-link l =
    let left = links_from (map link_of (drop l.link-index l.links)) in
    let all = links_from (map link_of l.links) in
    record {
      fault : spec.links_fault (l.front ++ l.back) left ≡ spec.links_fault (l.front ++ l.back) all;
      compared : (l.compared && spec.are_compared (l.front ++ l.back) l.left left) ≡ spec.are_compared (l.front ++ l.back) l.fn.kind all;
    }

abbrev pub invariant-check_arms-loop-arm : goal.invariant-check_arms-loop-arm
invariant-check_arms-loop-arm l =
    let left = arms_from (map arm_of (drop l.arm-index l.arms)) in
    let all = arms_from (map arm_of l.arms) in
    record {
      fault : spec.arms_fault (l.front ++ l.back) left ≡ spec.arms_fault (l.front ++ l.back) all;
      taken : (l.taken && spec.have_values (l.front ++ l.back) left) ≡ spec.have_values (l.front ++ l.back) all;
      flags : (l.flags && gives_flags (l.front ++ l.back) left) ≡ gives_flags (l.front ++ l.back) all;
    }

abbrev pub invariant-check_arguments-loop-argument : goal.invariant-check_arguments-loop-argument
invariant-check_arguments-loop-argument l =
    let left = expressions_from (map expression_of (drop l.argument-index l.arguments)) in
    let all = expressions_from (map expression_of l.arguments) in
    record {
      fault : spec.expressions_fault (l.front ++ l.back) left ≡ spec.expressions_fault (l.front ++ l.back) all;
      taken : (l.taken && spec.are_taken l.function (l.front ++ l.back) left) ≡ spec.are_taken l.function (l.front ++ l.back) all;
      flags : (l.flags && are_flags (l.front ++ l.back) left) ≡ are_flags (l.front ++ l.back) all;
    }
