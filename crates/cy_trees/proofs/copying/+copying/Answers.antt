-- CASE with ELSE.
use Rattle.std.proofs.Common.{map, sym, ap, ◌∙◌}
use Rattle.cy_trees.specs.declared.expressions.Expr.{Case}
use Rattle.cy_trees.specs.TreeModels.{arm_of, expression_of}
use Rattle.cy_trees.proofs.TreeModelsLemmas.{case_copied}
use Rattle.cy_trees.proofs.copying.+copying.Goals as goal

pub copy_expression-returns-in_ok-copy_boxed-in-Some : goal.copy_expression-returns-in_ok-copy_boxed-in-Some
copy_expression-returns-in_ok-copy_boxed-in-Some t c =
    case_copied c.in-Case.arms c.in_ok-arms-in-Case.arms c.in-Some.otherwise c.in_ok-copy_boxed-in-Some.field-0
    (c.in_ok-arms-in-Case.ensures ∙ ap (map arm_of) c.deref-in-Case.ensures.value)
    (c.in_ok-copy_boxed-in-Some.ensures ∙ ap expression_of c.deref-in-Some.ensures)
    ∙ sym (ap expression_of (c.in-Case.is ∙ ap (λ o. Case c.in-Case.arms o) c.in-Some.is))
