-- Lists, part by part, and CASE with ELSE.
use Rattle.std.proofs.Common.{◌≡◌, ◌++◌, map, length, take, drop, ap, sym, ◌∙◌, arith}
use Rattle.std.proofs.lemmas.Grind.{common_steps}
use Rattle.cy_trees.specs.declared.expressions.Expr.{Case}
use Rattle.cy_trees.specs.Trees.{Expression, Arms, case, otherwise}
use Rattle.cy_trees.specs.TreeModels.{expression_of, expressions_from, links_from, link_of, arms_from, arm_of, arms_of}
use Rattle.cy_trees.proofs.TreeModelsLemmas.{case_otherwise}
use Rattle.cy_scope_kinds.specs.ResolvedExpressions.{resolved, resolved_arms}
use Rattle.cy_scope_kinds.specs.internal.ExpressionTrees.{resolved_link, resolved_arm}
use Rattle.cy_scope_kinds.proofs.ResolvedLemmas.{resolved_list, resolved_links_list, resolved_arms_list}
use Rattle.cy_scope_kinds.proofs.resolving.+resolving.Goals as goal

pub resolved_elements-returns : goal.resolved_elements-returns
resolved_elements-returns t c =
    let names = c.args.front.now ++ c.args.back.now in
    let all = take c.args.elements.len (c.loop-element.element-items ++ drop (length c.loop-element.element-items) c.args.elements.items) in
    let done : map expression_of all ≡ map (resolved names) (map expression_of c.args.elements.items) = grind (arith, common_steps) in
    ap expressions_from done ∙ sym (resolved_list names (map expression_of c.args.elements.items))

pub resolved_links-returns : goal.resolved_links-returns
resolved_links-returns t c =
    let names = c.args.front.now ++ c.args.back.now in
    let all = take c.args.links.len (c.loop-link.link-items ++ drop (length c.loop-link.link-items) c.args.links.items) in
    let done : map link_of all ≡ map (resolved_link names) (map link_of c.args.links.items) = grind (arith, common_steps) in
    ap links_from done ∙ sym (resolved_links_list names (map link_of c.args.links.items))

pub resolved_arms-returns : goal.resolved_arms-returns
resolved_arms-returns t c =
    let names = c.args.front.now ++ c.args.back.now in
    let all = take c.args.arms.len (c.loop-arm.arm-items ++ drop (length c.loop-arm.arm-items) c.args.arms.items) in
    let done : map arm_of all ≡ map (resolved_arm names) (map arm_of c.args.arms.items) = grind (arith, common_steps) in
    ap arms_from done ∙ sym (resolved_arms_list names (map arm_of c.args.arms.items))

pub resolved-returns-in-Some : goal.resolved-returns-in-Some
resolved-returns-in-Some t c =
    let names = c.args.front.now ++ c.args.back.now in
    let before : expression_of c.args.expression ≡ case (arms_of c.in-Case.arms) (otherwise (expression_of c.in-Some.otherwise.value)) =
    ap expression_of c.in-Case.is ∙ ap (λ o. expression_of (Case c.in-Case.arms o)) c.in-Some.is ∙ case_otherwise c.in-Case.arms c.in-Some.otherwise in
    case_otherwise c.resolved_arms-arms.result c.resolved_box-in-Some.result
    ∙ ap (λ (a : Arms). case a (otherwise (expression_of c.resolved_box-in-Some.result.value))) c.resolved_arms-arms.ensures
    ∙ ap (λ (e : Expression). case (resolved_arms names (arms_of c.in-Case.arms)) (otherwise e)) c.resolved_box-in-Some.ensures
    ∙ sym (ap (resolved names) before)
