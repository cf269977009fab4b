use Rattle.std.proofs.Common.{List, map, ap, ◌∙◌}
use Rattle.std.proofs.lemmas.List.{take_all}
use Rattle.cy_trees.specs.declared.expressions.Arm.{Arm}
use Rattle.cy_trees.specs.declared.expressions.Expr.{Expr}
use Rattle.cy_trees.specs.declared.expressions.Link.{Link}
use Rattle.cy_trees.specs.TreeModels.{arm_of, arms_from, expression_of, expressions_from, link_of, links_from}
use Rattle.cy_planner_rows.specs.Renumbered as spec
use Rattle.cy_planner_rows.proofs.RenumberedLists.{renumbered_arms_list, renumbered_links_list, renumbered_list}
use Rattle.cy_planner_rows.proofs.renumbering.+renumbering.Goals as goal

pub renumber_elements-returns : goal.renumber_elements-returns
renumber_elements-returns t c =
    ap expressions_from (c.loop-element.invariant
    ∙ ap (λ (es : List Expr). map (spec.renumbered c.args.columns.now) (map expression_of es)) (take_all c.loop-element.element-index c.args.elements.now c.loop-element-test.false))
    ∙ renumbered_list c.args.columns.now (map expression_of c.args.elements.now)

pub renumber_links-returns : goal.renumber_links-returns
renumber_links-returns t c =
    ap links_from (c.loop-link.invariant
    ∙ ap (λ (ls : List Link). map (spec.renumbered_link c.args.columns.now) (map link_of ls)) (take_all c.loop-link.link-index c.args.links.now c.loop-link-test.false))
    ∙ renumbered_links_list c.args.columns.now (map link_of c.args.links.now)

pub renumber_arms-returns : goal.renumber_arms-returns
renumber_arms-returns t c =
    ap arms_from (c.loop-arm.invariant
    ∙ ap (λ (arms : List Arm). map (spec.renumbered_arm c.args.columns.now) (map arm_of arms)) (take_all c.loop-arm.arm-index c.args.arms.now c.loop-arm-test.false))
    ∙ renumbered_arms_list c.args.columns.now (map arm_of c.args.arms.now)
