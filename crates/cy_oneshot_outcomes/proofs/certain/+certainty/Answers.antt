-- The next of what is left settles the answer, or leaves it to the others.
use Rattle.std.proofs.Common.{◌≡◌, ◌+◌, ◌&&◌, true, false, drop, map, sym, ap, ◌∙◌}
use Rattle.cy_trees.specs.TreeModels.{expression_of, expressions_from, link_of, links_from}
use Rattle.cy_oneshot_outcomes.specs.internal.Certain as spec
use Rattle.cy_oneshot_outcomes.proofs.CertainSteps.{next_expression, next_link}
use Rattle.cy_oneshot_outcomes.proofs.certain.+certainty.Goals as goal

pub are_certain_links-returns-then-not-is_certain_link : goal.are_certain_links-returns-then-not-is_certain_link
are_certain_links-returns-then-not-is_certain_link t c =
    let no : c.is_certain_link.result ≡ false = cc in
    let x = c.link-item.result in
    let rest = spec.are_certain_links c.args.shapes.now (spec.gives_value c.args.shapes.now (expression_of x.operand)) (links_from (map link_of (drop (c.loop-link.link-index + 1) c.args.links.now))) in
    sym (next_link c.args.shapes.now c.loop-link.before c.args.links.now c.loop-link.link-index x c.loop-link-test.true c.link-item.is ∙ ap (λ b. b && rest) (sym c.is_certain_link.ensures ∙ no))
    ∙ c.loop-link.invariant

pub are_certain_links-loop-link-preserved : goal.are_certain_links-loop-link-preserved
are_certain_links-loop-link-preserved t c =
    let yes : c.is_certain_link.result ≡ true = cc in
    let x = c.link-item.result in
    let rest = spec.are_certain_links c.args.shapes.now (spec.gives_value c.args.shapes.now (expression_of x.operand)) (links_from (map link_of (drop (c.loop-link.link-index + 1) c.args.links.now))) in
    ap (λ v. spec.are_certain_links c.args.shapes.now v (links_from (map link_of (drop (c.loop-link.link-index + 1) c.args.links.now)))) c.gives_value-before.ensures
    ∙ sym (next_link c.args.shapes.now c.loop-link.before c.args.links.now c.loop-link.link-index x c.loop-link-test.true c.link-item.is ∙ ap (λ b. b && rest) (sym c.is_certain_link.ensures ∙ yes))
    ∙ c.loop-link.invariant

pub are_certain-returns-then-not-is_certain_value : goal.are_certain-returns-then-not-is_certain_value
are_certain-returns-then-not-is_certain_value t c =
    let no : c.is_certain_value.result ≡ false = cc in
    let rest = spec.are_certain c.args.shapes.now (expressions_from (map expression_of (drop (c.loop-expression.expression-index + 1) c.args.expressions.now))) in
    sym (next_expression c.args.shapes.now c.args.expressions.now c.loop-expression.expression-index c.expression-item.result c.loop-expression-test.true c.expression-item.is
    ∙ ap (λ b. b && rest) (sym c.is_certain_value.ensures ∙ no))
    ∙ c.loop-expression.invariant

pub are_certain-loop-expression-preserved : goal.are_certain-loop-expression-preserved
are_certain-loop-expression-preserved t c =
    let yes : c.is_certain_value.result ≡ true = cc in
    let rest = spec.are_certain c.args.shapes.now (expressions_from (map expression_of (drop (c.loop-expression.expression-index + 1) c.args.expressions.now))) in
    sym (next_expression c.args.shapes.now c.args.expressions.now c.loop-expression.expression-index c.expression-item.result c.loop-expression-test.true c.expression-item.is
    ∙ ap (λ b. b && rest) (sym c.is_certain_value.ensures ∙ yes))
    ∙ c.loop-expression.invariant
