-- What is done, and what the others are to become.
use Rattle.std.proofs.Common.{◌≡◌, ◌++◌, map}
use Rattle.cy_trees.specs.TreeModels.{expression_of, link_of, arm_of}
use Rattle.cy_scope_kinds.specs.ResolvedExpressions.{resolved}
use Rattle.cy_scope_kinds.specs.internal.ExpressionTrees.{resolved_link, resolved_arm}
use Rattle.cy_scope_kinds.proofs.ResolvedLemmas.{mixed}
use Rattle.cy_scope_kinds.proofs.resolving.+resolving.Given as goal

abbrev pub invariant-resolved_elements-loop-element : goal.invariant-resolved_elements-loop-element
invariant-resolved_elements-loop-element l =
    record {
      unvisited : goal.unvisited-resolved_elements-loop-element l;
      done : mixed expression_of (resolved (l.front ++ l.back)) l.element-index l.element-items ≡ map (resolved (l.front ++ l.back)) (map expression_of l.initial.element-items);
    }

abbrev pub invariant-resolved_links-loop-link : goal.invariant-resolved_links-loop-link
invariant-resolved_links-loop-link l =
    record {
      unvisited : goal.unvisited-resolved_links-loop-link l;
      done : mixed link_of (resolved_link (l.front ++ l.back)) l.link-index l.link-items ≡ map (resolved_link (l.front ++ l.back)) (map link_of l.initial.link-items);
    }

abbrev pub invariant-resolved_arms-loop-arm : goal.invariant-resolved_arms-loop-arm
invariant-resolved_arms-loop-arm l =
    record {
      unvisited : goal.unvisited-resolved_arms-loop-arm l;
      done : mixed arm_of (resolved_arm (l.front ++ l.back)) l.arm-index l.arm-items ≡ map (resolved_arm (l.front ++ l.back)) (map arm_of l.initial.arm-items);
    }
