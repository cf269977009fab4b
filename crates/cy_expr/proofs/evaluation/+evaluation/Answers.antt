use Rattle.std.proofs.Common.{sym, ap, subst, refl, ◌∙◌, inl, map}
use Rattle.std.specs.Prelude.{Some, None, Result, Ok, option_map}
use Rattle.cy_values.specs.declared.rows.Cell.{Cell}
use Rattle.cy_expr.specs.internal.Lent.{GivesOrWants, held_cell}
use Rattle.cy_trees.specs.Trees.{call, list}
use Rattle.cy_trees.specs.TreeModels.{expression_of, expressions_from, link_of, links_from}
use Rattle.cy_expr.specs.declared.faults.EvalFault.{EvalFault}
use Rattle.cy_expr.specs.Faults.{on_one, on_two}
use Rattle.cy_expr.specs.Logic.{value_of}
use Rattle.cy_expr.specs.Lookups.{labels_test, property_value}
use Rattle.cy_expr.specs.Operators.{binary_value, unary_value, value_in_cell}
use Rattle.cy_values.specs.Compare.{lent}
use Rattle.cy_expr.specs.Evaluation.{as_cell, call_value, cell_of, cells_of, chain, outcomes_of, property_exists, values_of}
use Rattle.cy_expr.proofs.ReadingLemmas.{cell-numbered}
use Rattle.cy_expr.proofs.Rules.{membership-all, membership-more, chain-more, elements-more, cells-more, cells-refused, cell-faults, count_from-zero, counted, failed, other_call}
use Rattle.cy_expr.proofs.WholeSteps.{after, after_arms, arms_stopped, binary_at, call_at, case_at, comparison_at, labels_at, list_at, property_at, stopped, sure, unary_at, whole}
use Rattle.cy_expr.proofs.evaluation.+evaluation.Goals as goal

-- ---- an expression by its form

pub evaluate_whole-returns-in_err-evaluate-in-Property : goal.evaluate_whole-returns-in_err-evaluate-in-Property
evaluate_whole-returns-in_err-evaluate-in-Property g t c =
    let graph = g.G.Lookups.lookups c.args.graph.now in
    let row = c.args.row.now in
    let over : Result Cell EvalFault → Result Cell EvalFault = λ x. as_cell (on_one (property_value graph c.in-Property.key) x) in
    stopped graph row c.from_residual.result c.args.expression.now over c.deref.result.now c.in_err-evaluate-in-Property.field-0.0 refl
    (ap (cell_of graph row) (property_at c.args.expression.now c.in-Property.owner c.in-Property.key c.in-Property.key c.deref.result.now c.in-Property.is c.deref.ensures refl))
    c.from_residual.ensures c.in_err-evaluate-in-Property.ensures

pub evaluate_whole-returns-in_ok-evaluate-in-Property : goal.evaluate_whole-returns-in_ok-evaluate-in-Property
evaluate_whole-returns-in_ok-evaluate-in-Property g t c =
    let graph = g.G.Lookups.lookups c.args.graph.now in
    let row = c.args.row.now in
    let over : Result Cell EvalFault → Result Cell EvalFault = λ x. as_cell (on_one (property_value graph c.as_str-in-Property.result.now) x) in
    after graph row c.property.result c.args.expression.now over c.deref.result.now (held_cell c.in_ok-evaluate-in-Property.field-0) c.in_ok-evaluate-in-Property.ensures
    (ap (cell_of graph row) (property_at c.args.expression.now c.in-Property.owner c.in-Property.key c.as_str-in-Property.result.now c.deref.result.now c.in-Property.is c.deref.ensures c.as_str-in-Property.ensures))
    (sure c.property.result (over (Ok (held_cell c.in_ok-evaluate-in-Property.field-0))) c.property.ensures)

pub evaluate_whole-returns-in_err-evaluate-in-HasLabels : goal.evaluate_whole-returns-in_err-evaluate-in-HasLabels
evaluate_whole-returns-in_err-evaluate-in-HasLabels g t c =
    let graph = g.G.Lookups.lookups c.args.graph.now in
    let row = c.args.row.now in
    let over : Result Cell EvalFault → Result Cell EvalFault = λ x. as_cell (on_one (labels_test graph c.in-HasLabels.labels.items) x) in
    stopped graph row c.from_residual-in_err-evaluate-in-HasLabels.result c.args.expression.now over c.deref-in-HasLabels.result.now c.in_err-evaluate-in-HasLabels.field-0.0 refl
    (ap (cell_of graph row) (labels_at c.args.expression.now c.in-HasLabels.owner c.in-HasLabels.labels c.in-HasLabels.labels.items c.deref-in-HasLabels.result.now c.in-HasLabels.is c.deref-in-HasLabels.ensures refl))
    c.from_residual-in_err-evaluate-in-HasLabels.ensures c.in_err-evaluate-in-HasLabels.ensures

pub evaluate_whole-returns-in_ok-evaluate-in-HasLabels : goal.evaluate_whole-returns-in_ok-evaluate-in-HasLabels
evaluate_whole-returns-in_ok-evaluate-in-HasLabels g t c =
    let graph = g.G.Lookups.lookups c.args.graph.now in
    let row = c.args.row.now in
    let over : Result Cell EvalFault → Result Cell EvalFault = λ x. as_cell (on_one (labels_test graph c.deref-in-HasLabels-2.result.now) x) in
    after graph row c.has_labels.result c.args.expression.now over c.deref-in-HasLabels.result.now (held_cell c.in_ok-evaluate-in-HasLabels.field-0) c.in_ok-evaluate-in-HasLabels.ensures
    (ap (cell_of graph row) (labels_at c.args.expression.now c.in-HasLabels.owner c.in-HasLabels.labels c.deref-in-HasLabels-2.result.now c.deref-in-HasLabels.result.now c.in-HasLabels.is c.deref-in-HasLabels.ensures c.deref-in-HasLabels-2.ensures.value))
    (sure c.has_labels.result (over (Ok (held_cell c.in_ok-evaluate-in-HasLabels.field-0))) c.has_labels.ensures)

pub evaluate_whole-returns-in_err-evaluate-in-Unary : goal.evaluate_whole-returns-in_err-evaluate-in-Unary
evaluate_whole-returns-in_err-evaluate-in-Unary g t c =
    let graph = g.G.Lookups.lookups c.args.graph.now in
    let row = c.args.row.now in
    let over : Result Cell EvalFault → Result Cell EvalFault = λ x. as_cell (on_one (unary_value c.in-Unary.operator) x) in
    stopped graph row c.from_residual-in_err-evaluate-in-Unary.result c.args.expression.now over c.deref-in-Unary.result.now c.in_err-evaluate-in-Unary.field-0.0 refl
    (ap (cell_of graph row) (unary_at c.args.expression.now c.in-Unary.operator c.in-Unary.operand c.deref-in-Unary.result.now c.in-Unary.is c.deref-in-Unary.ensures))
    c.from_residual-in_err-evaluate-in-Unary.ensures c.in_err-evaluate-in-Unary.ensures

pub evaluate_whole-returns-in_ok-evaluate-in-Unary : goal.evaluate_whole-returns-in_ok-evaluate-in-Unary
evaluate_whole-returns-in_ok-evaluate-in-Unary g t c =
    let graph = g.G.Lookups.lookups c.args.graph.now in
    let row = c.args.row.now in
    let over : Result Cell EvalFault → Result Cell EvalFault = λ x. as_cell (on_one (unary_value c.in-Unary.operator) x) in
    after graph row c.unary.result c.args.expression.now over c.deref-in-Unary.result.now (held_cell c.in_ok-evaluate-in-Unary.field-0) c.in_ok-evaluate-in-Unary.ensures
    (ap (cell_of graph row) (unary_at c.args.expression.now c.in-Unary.operator c.in-Unary.operand c.deref-in-Unary.result.now c.in-Unary.is c.deref-in-Unary.ensures))
    (sure c.unary.result (over (Ok (held_cell c.in_ok-evaluate-in-Unary.field-0))) c.unary.ensures)

pub evaluate_whole-returns-in_err-left-in-Binary : goal.evaluate_whole-returns-in_err-left-in-Binary
evaluate_whole-returns-in_err-left-in-Binary g t c =
    let graph = g.G.Lookups.lookups c.args.graph.now in
    let row = c.args.row.now in
    let over : Result Cell EvalFault → Result Cell EvalFault = λ x. as_cell (on_two (binary_value c.in-Binary.operator) (on_one value_in_cell x) (on_one value_in_cell (cell_of graph row (expression_of c.in-Binary.right.value)))) in
    stopped graph row c.from_residual-in_err-left-in-Binary.result c.args.expression.now over c.deref-in-Binary.result.now c.in_err-left-in-Binary.field-0.0 refl
    (ap (cell_of graph row) (binary_at c.args.expression.now c.in-Binary.operator c.in-Binary.left c.in-Binary.right c.deref-in-Binary.result.now c.in-Binary.right.value c.in-Binary.is c.deref-in-Binary.ensures refl))
    c.from_residual-in_err-left-in-Binary.ensures c.in_err-left-in-Binary.ensures

pub evaluate_whole-returns-in_ok-left-in-Binary : goal.evaluate_whole-returns-in_ok-left-in-Binary
evaluate_whole-returns-in_ok-left-in-Binary g t c =
    let graph = g.G.Lookups.lookups c.args.graph.now in
    let row = c.args.row.now in
    let over : Result Cell EvalFault → Result Cell EvalFault = λ x. as_cell (on_two (binary_value c.in-Binary.operator) (on_one value_in_cell x) (on_one value_in_cell (cell_of graph row (expression_of c.deref-in-Binary-2.result.now)))) in
    after graph row c.evaluate_binary.result c.args.expression.now over c.deref-in-Binary.result.now (held_cell c.in_ok-left-in-Binary.left) c.in_ok-left-in-Binary.ensures
    (ap (cell_of graph row) (binary_at c.args.expression.now c.in-Binary.operator c.in-Binary.left c.in-Binary.right c.deref-in-Binary.result.now c.deref-in-Binary-2.result.now c.in-Binary.is c.deref-in-Binary.ensures c.deref-in-Binary-2.ensures))
    c.evaluate_binary.ensures

pub evaluate_whole-returns-in_err-first-in-Comparison : goal.evaluate_whole-returns-in_err-first-in-Comparison
evaluate_whole-returns-in_err-first-in-Comparison g t c =
    let graph = g.G.Lookups.lookups c.args.graph.now in
    let row = c.args.row.now in
    let over : Result Cell EvalFault → Result Cell EvalFault = λ x. as_cell (on_one (λ a. Ok (value_of a)) (on_one (λ d. chain graph row d (links_from (map link_of c.in-Comparison.links.items))) x)) in
    stopped graph row c.from_residual-in_err-first-in-Comparison.result c.args.expression.now over c.deref-in-Comparison.result.now c.in_err-first-in-Comparison.field-0.0 refl
    (ap (cell_of graph row) (comparison_at c.args.expression.now c.in-Comparison.first c.in-Comparison.links c.deref-in-Comparison.result.now c.in-Comparison.links.items c.in-Comparison.is c.deref-in-Comparison.ensures refl))
    c.from_residual-in_err-first-in-Comparison.ensures c.in_err-first-in-Comparison.ensures

pub evaluate_whole-returns-in_ok-first-in-Comparison : goal.evaluate_whole-returns-in_ok-first-in-Comparison
evaluate_whole-returns-in_ok-first-in-Comparison g t c =
    let graph = g.G.Lookups.lookups c.args.graph.now in
    let row = c.args.row.now in
    let over : Result Cell EvalFault → Result Cell EvalFault = λ x. as_cell (on_one (λ a. Ok (value_of a)) (on_one (λ d. chain graph row d (links_from (map link_of c.deref-in-Comparison-2.result.now))) x)) in
    after graph row c.evaluate_links.result c.args.expression.now over c.deref-in-Comparison.result.now (held_cell c.in_ok-first-in-Comparison.first) c.in_ok-first-in-Comparison.ensures
    (ap (cell_of graph row) (comparison_at c.args.expression.now c.in-Comparison.first c.in-Comparison.links c.deref-in-Comparison.result.now c.deref-in-Comparison-2.result.now c.in-Comparison.is c.deref-in-Comparison.ensures c.deref-in-Comparison-2.ensures.value))
    c.evaluate_links.ensures

pub evaluate_whole-returns-in-List : goal.evaluate_whole-returns-in-List
evaluate_whole-returns-in-List g t c =
    let is = list_at c.args.expression.now c.in-List.elements c.deref-in-List.result.now c.in-List.is c.deref-in-List.ensures.value in
    whole (g.G.Lookups.lookups c.args.graph.now) c.args.row.now c.evaluate_list.result c.args.expression.now (list (expressions_from (map expression_of c.deref-in-List.result.now))) is c.evaluate_list.ensures

pub evaluate_whole-returns-in_err-outcome-in-Case : goal.evaluate_whole-returns-in_err-outcome-in-Case
evaluate_whole-returns-in_err-outcome-in-Case g t c =
    let is = case_at c.args.expression.now c.in-Case.arms c.deref-in-Case.result.now c.in-Case.otherwise c.in-Case.is c.deref-in-Case.ensures.value in
    arms_stopped (g.G.Lookups.lookups c.args.graph.now) c.args.row.now c.from_residual-in_err-outcome-in-Case.result c.args.expression.now c.deref-in-Case.result.now c.in-Case.otherwise is
    c.in_err-outcome-in-Case.field-0.0 c.from_residual-in_err-outcome-in-Case.ensures c.in_err-outcome-in-Case.ensures

pub evaluate_whole-returns-in-Some : goal.evaluate_whole-returns-in-Some
evaluate_whole-returns-in-Some g t c =
    let is = case_at c.args.expression.now c.in-Case.arms c.deref-in-Case.result.now c.in-Case.otherwise c.in-Case.is c.deref-in-Case.ensures.value in
    after_arms (g.G.Lookups.lookups c.args.graph.now) c.args.row.now (Ok c.in-Some.outcome) c.args.expression.now c.deref-in-Case.result.now c.in-Case.otherwise is
    (Ok (Some (held_cell c.in-Some.outcome))) (c.in_ok-outcome-in-Case.ensures ∙ (λ i. Ok (option_map held_cell (c.in-Some.is i)))) refl

pub evaluate_whole-returns-in-None : goal.evaluate_whole-returns-in-None
evaluate_whole-returns-in-None g t c =
    let is = case_at c.args.expression.now c.in-Case.arms c.deref-in-Case.result.now c.in-Case.otherwise c.in-Case.is c.deref-in-Case.ensures.value in
    after_arms (g.G.Lookups.lookups c.args.graph.now) c.args.row.now c.evaluate_otherwise.result c.args.expression.now c.deref-in-Case.result.now c.in-Case.otherwise is
    (Ok None) (c.in_ok-outcome-in-Case.ensures ∙ (λ i. Ok (option_map held_cell (c.in-None.is i)))) c.evaluate_otherwise.ensures

pub evaluate_whole-returns-in-Call : goal.evaluate_whole-returns-in-Call
evaluate_whole-returns-in-Call g t c =
    let graph = g.G.Lookups.lookups c.args.graph.now in
    let row = c.args.row.now in
    let es = expressions_from (map expression_of c.deref-in-Call.result.now) in
    let is = call_at c.args.expression.now c.in-Call.name c.as_str-in-Call.result.now c.in-Call.field-1 c.in-Call.arguments c.deref-in-Call.result.now c.in-Call.is c.as_str-in-Call.ensures c.deref-in-Call.ensures.value in
    whole graph row c.evaluate_call.result c.args.expression.now (call c.as_str-in-Call.result.now c.in-Call.field-1 es) is
    (subst (λ f. GivesOrWants c.evaluate_call.result (as_cell (call_value graph f (cells_of graph row es) (outcomes_of graph row es) (property_exists graph row es)))) c.named.ensures c.evaluate_call.ensures)

-- ---- its parts

pub evaluate_links-loop-link-preserved : goal.evaluate_links-loop-link-preserved
evaluate_links-loop-link-preserved g t c =
    chain-more (g.G.Lookups.lookups c.args.graph.now) c.args.row.now c.loop-link.all c.in_ok-compare.field-0 c.and-all.result (held_cell c.loop-link.left) (held_cell c.in_ok-right.right) c.args.links.now c.loop-link.link-index c.link-item.result
    c.loop-link-test.true c.link-item.is c.in_ok-right.ensures (sym c.in_ok-compare.ensures) c.and-all.ensures
    ∙ c.loop-link.invariant

pub evaluate_list-loop-element-preserved : goal.evaluate_list-loop-element-preserved
evaluate_list-loop-element-preserved g t c =
    rw c.in_ok-push.ensures.items
    (elements-more (g.G.Lookups.lookups c.args.graph.now) c.args.row.now c.loop-element.values.items c.in_ok-value.value (held_cell c.in_ok-evaluate.field-0) c.args.elements.now c.loop-element.element-index c.element-item.result
    c.loop-element-test.true c.element-item.is c.in_ok-evaluate.ensures c.in_ok-value.ensures
    ∙ c.loop-element.invariant)

pub evaluate_membership-loop-element-init : goal.evaluate_membership-loop-element-init
evaluate_membership-loop-element-init g t c =
    membership-all (lent c.args.value) (values_of (g.G.Lookups.lookups c.args.graph.now) c.args.row.now (expressions_from (map expression_of c.args.elements.now)))

pub evaluate_membership-loop-element-preserved : goal.evaluate_membership-loop-element-preserved
evaluate_membership-loop-element-preserved g t c =
    membership-more (g.G.Lookups.lookups c.args.graph.now) c.args.row.now c.loop-element.any c.equals_also-any.result (lent c.args.value) (lent c.in_ok-value.field-0) (held_cell c.in_ok-element.element) c.args.elements.now c.loop-element.element-index c.element-item.result
    c.loop-element-test.true c.element-item.is c.in_ok-element.ensures c.in_ok-value.ensures c.equals_also-any.ensures
    ∙ c.loop-element.invariant

pub evaluate_function-loop-argument-init : goal.evaluate_function-loop-argument-init
evaluate_function-loop-argument-init g t c =
    count_from-zero (counted (cells_of (g.G.Lookups.lookups c.args.graph.now) c.args.row.now (expressions_from (map expression_of c.args.arguments.now))))

pub evaluate_function-loop-argument-preserved : goal.evaluate_function-loop-argument-preserved
evaluate_function-loop-argument-preserved g t c =
    cells-more (g.G.Lookups.lookups c.args.graph.now) c.args.row.now (held_cell c.in_ok-evaluate.field-0) c.args.arguments.now c.loop-argument.argument-index c.argument-item.result
    c.loop-argument-test.true c.argument-item.is c.in_ok-evaluate.ensures
    ∙ c.loop-argument.invariant

-- a fault of an argument
pub evaluate_function-returns-in_err-evaluate : goal.evaluate_function-returns-in_err-evaluate
evaluate_function-returns-in_err-evaluate g t c =
    failed _ _ c.from_residual.result c.in_err-evaluate.field-0.0 c.from_residual.ensures
    (cell-faults (g.G.Lookups.lookups c.args.graph.now) c.args.row.now c.args.function c.in_err-evaluate.field-0.0 c.args.arguments.now c.loop-argument.argument-index c.argument-item.result
    c.loop-argument-test.true c.argument-item.is c.in_err-evaluate.ensures c.loop-argument.invariant)

-- another number of arguments than one
pub evaluate_function-returns-then-arguments-ne1 : goal.evaluate_function-returns-then-arguments-ne1
evaluate_function-returns-then-arguments-ne1 g t c =
    inl (cells-refused (g.G.Lookups.lookups c.args.graph.now) c.args.row.now c.args.function c.args.arguments.now c.loop-argument.argument-index
    c.loop-argument-test.false c.loop-argument.auto.argument-index-end c.if-arguments-ne1.true c.loop-argument.invariant)

-- the cell of the one argument
pub evaluate_function-call-requires : goal.evaluate_function-call-requires
evaluate_function-call-requires g t c =
    cell-numbered (g.G.Lookups.lookups c.args.graph.now) c.args.row.now (expression_of c.index-arguments-0.result) (held_cell c.in_ok-argument.argument) c.requires c.in_ok-argument.ensures

-- a function that looks at its argument's cell
pub evaluate_call-returns-in_default : goal.evaluate_call-returns-in_default
evaluate_call-returns-in_default g t c =
    let es = expressions_from (map expression_of c.args.arguments.now) in
    other_call (g.G.Lookups.lookups c.args.graph.now) c.args.function c.in-Some.function
    (cells_of (g.G.Lookups.lookups c.args.graph.now) c.args.row.now es) (outcomes_of (g.G.Lookups.lookups c.args.graph.now) c.args.row.now es) (property_exists (g.G.Lookups.lookups c.args.graph.now) c.args.row.now es)
    c.evaluate_function.result c.in-Some.is c.in_default.not-Coalesce c.in_default.not-Exists c.evaluate_function.ensures
