use Rattle.std.proofs.Common.{◌≡◌, drop, map}
use Rattle.cy_trees.specs.TreeModels.{expressions_from, expression_of, links_from, link_of, arms_from, arm_of}
use Rattle.cy_expr.specs.Choice.{coalesce}
use Rattle.cy_expr.specs.internal.Arms.{chosen}
use Rattle.cy_expr.specs.internal.Membership.{membership_from}
use Rattle.cy_values.specs.Compare.{lent}
use Rattle.cy_expr.specs.Faults.{on_one}
use Rattle.cy_expr.specs.Lists.{list_of, membership}
use Rattle.cy_expr.specs.internal.Lent.{held_cell}
use Rattle.cy_expr.specs.Evaluation as spec
use Rattle.cy_expr.proofs.Rules.{and_then, behind_values, counted, count_from}
use Rattle.cy_expr.proofs.evaluation.+evaluation.Given as goal

-- what is known so far, and the links that are left
abbrev pub invariant-evaluate_links-loop-link : goal.invariant-evaluate_links-loop-link
invariant-evaluate_links-loop-link g l =
    and_then l.all (spec.chain (g.G.Lookups.lookups l.graph) l.row (held_cell l.left) (links_from (map link_of (drop l.link-index l.links))))
    ≡ spec.chain (g.G.Lookups.lookups l.graph) l.row (held_cell l.fn.first) (links_from (map link_of l.links))

-- the values so far, and the elements that are left
abbrev pub invariant-evaluate_list-loop-element : goal.invariant-evaluate_list-loop-element
invariant-evaluate_list-loop-element g l =
    behind_values l.values.items (spec.values_of (g.G.Lookups.lookups l.graph) l.row (expressions_from (map expression_of (drop l.element-index l.elements))))
    ≡ spec.values_of (g.G.Lookups.lookups l.graph) l.row (expressions_from (map expression_of l.elements))

-- what is known of the elements that were compared, and those that are left
abbrev pub invariant-evaluate_membership-loop-element : goal.invariant-evaluate_membership-loop-element
invariant-evaluate_membership-loop-element g l =
    membership_from l.any (lent l.value) (spec.values_of (g.G.Lookups.lookups l.graph) l.row (expressions_from (map expression_of (drop l.element-index l.elements))))
    ≡ on_one (membership (lent l.value)) (on_one list_of (spec.values_of (g.G.Lookups.lookups l.graph) l.row (expressions_from (map expression_of l.elements))))

-- the arms that are left decide
abbrev pub invariant-evaluate_arms-loop-arm : goal.invariant-evaluate_arms-loop-arm
invariant-evaluate_arms-loop-arm g l =
    chosen (spec.outcomes_of_arms (g.G.Lookups.lookups l.graph) l.row (arms_from (map arm_of (drop l.arm-index l.arms))))
    ≡ chosen (spec.outcomes_of_arms (g.G.Lookups.lookups l.graph) l.row (arms_from (map arm_of l.arms)))

-- the arguments that are left decide
abbrev pub invariant-evaluate_first-loop-argument : goal.invariant-evaluate_first-loop-argument
invariant-evaluate_first-loop-argument g l =
    coalesce (spec.outcomes_of (g.G.Lookups.lookups l.graph) l.row (expressions_from (map expression_of (drop l.argument-index l.arguments))))
    ≡ coalesce (spec.outcomes_of (g.G.Lookups.lookups l.graph) l.row (expressions_from (map expression_of l.arguments)))

-- how many cells there are so far, and the arguments that are left
abbrev pub invariant-evaluate_function-loop-argument : goal.invariant-evaluate_function-loop-argument
invariant-evaluate_function-loop-argument g l =
    count_from l.argument-index (counted (spec.cells_of (g.G.Lookups.lookups l.graph) l.row (expressions_from (map expression_of (drop l.argument-index l.arguments)))))
    ≡ counted (spec.cells_of (g.G.Lookups.lookups l.graph) l.row (expressions_from (map expression_of l.arguments)))
