use Rattle.std.proofs.Common.{◌≡◌, List, map, rules, arith, sym, ap, subst, ◌∙◌}
use Rattle.std.specs.Prelude.{IfOk}
use Rattle.std.proofs.lemmas.Grind.{common_steps}
use Rattle.std.proofs.lemmas.List.{take_all}
use Rattle.cy_trees.specs.declared.expressions.Arm.{Arm}
use Rattle.cy_trees.specs.declared.expressions.Expr.{Expr, Call}
use Rattle.cy_trees.specs.declared.expressions.Link.{Link}
use Rattle.cy_trees.specs.Trees.{Expression, call}
use Rattle.cy_trees.specs.TreeModels.{arm_of, arms_from, expression_of, expressions_from, link_of, links_from}
use Rattle.cy_scope_kinds.specs.Functions.{function_named}
use Rattle.cy_planner_rows.specs.internal.Lowered as spec
use Rattle.cy_planner_rows.specs.Places.{place}
use Rattle.cy_planner_rows.proofs.LoweredLists.{call_is, lowered_arms_list, lowered_links_list, lowered_list, other_arguments, single_call}
use Rattle.cy_planner_rows.proofs.lowering.+lowering.Goals as goal

pub lower_elements-returns : goal.lower_elements-returns
lower_elements-returns t c =
    let p = place c.args.first c.args.wanted.now in
    ap expressions_from (c.loop-element.invariant
    ∙ ap (λ (es : List Expr). map (spec.lowered p) (map expression_of es)) (take_all c.loop-element.element-index c.args.elements.now c.loop-element-test.false))
    ∙ lowered_list p (map expression_of c.args.elements.now)

pub lower_links-returns : goal.lower_links-returns
lower_links-returns t c =
    let p = place c.args.first c.args.wanted.now in
    ap links_from (c.loop-link.invariant
    ∙ ap (λ (ls : List Link). map (spec.lowered_link p) (map link_of ls)) (take_all c.loop-link.link-index c.args.links.now c.loop-link-test.false))
    ∙ lowered_links_list p (map link_of c.args.links.now)

pub lower_arms-returns : goal.lower_arms-returns
lower_arms-returns t c =
    let p = place c.args.first c.args.wanted.now in
    ap arms_from (c.loop-arm.invariant
    ∙ ap (λ (arms : List Arm). map (spec.lowered_arm p) (map arm_of arms)) (take_all c.loop-arm.arm-index c.args.arms.now c.loop-arm-test.false))
    ∙ lowered_arms_list p (map arm_of c.args.arms.now)

pub lower_call-returns-then-arguments-ne1 : goal.lower_call-returns-then-arguments-ne1
lower_call-returns-then-arguments-ne1 t c =
    let p = place c.args.first c.args.wanted.now in
    let asked = call c.args.name.now c.args.distinct (spec.lowered_expressions p (expressions_from (map expression_of c.args.arguments.now))) in
    let is : expression_of (Call c.in_ok-copy.field-0 c.args.distinct c.in_ok-lowered.lowered) ≡ asked =
    call_is c.in_ok-copy.field-0 c.args.distinct c.in_ok-lowered.lowered ∙ (λ i. call (c.in_ok-copy.ensures i) c.args.distinct (c.in_ok-lowered.ensures i)) in
    is ∙ sym (other_arguments p (function_named c.args.name.now) c.args.arguments.now asked (λ e. omega (arith, e)))

pub lower_call-returns : goal.lower_call-returns
lower_call-returns t c =
    let p = place c.args.first c.args.wanted.now in
    let asked = call c.args.name.now c.args.distinct (spec.lowered_expressions p (expressions_from (map expression_of c.args.arguments.now))) in
    let given = expression_of (Call c.in_ok-copy.field-0 c.args.distinct c.in_ok-lowered.lowered) in
    let is : given ≡ asked =
    call_is c.in_ok-copy.field-0 c.args.distinct c.in_ok-lowered.lowered ∙ (λ i. call (c.in_ok-copy.ensures i) c.args.distinct (c.in_ok-lowered.ensures i)) in
    let named : c.named-function.result ≡ function_named c.args.name.now = first_of (search rules, grind (arith, common_steps)) in
    subst (λ (x : Expression). IfOk c.lower_single.result (λ e. expression_of e ≡ x))
    (single_call p (function_named c.args.name.now) c.named-function.result c.args.arguments.now c.index-arguments-0.result given asked (omega arith) named c.index-arguments-0.is is)
    c.lower_single.ensures
