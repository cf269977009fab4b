-- What the condition that is left asks, the whole asks.
use Rattle.std.proofs.Common.{◌≡◌, true, rules, sym, ap, subst, ◌∙◌, Bor}
use Rattle.cy_trees.specs.declared.expressions.BinaryOperator.TheVariants.{And, In}
use Rattle.cy_trees.specs.declared.expressions.Expr.{Expr, the_lemmas}
use Rattle.cy_trees.specs.Trees.{Expression, Name, binary, text}
use Rattle.cy_trees.specs.TreeModels.{expression_of}
use Rattle.cy_planner_algebra.specs.Plans.{computed}
use Rattle.cy_network_sources.specs.Scans.{is_column}
use Rattle.cy_network_relevance.specs.internal.Labelled.{Asks}
use Rattle.cy_network_relevance.proofs.Asking.{asks_in, asks_left, asks_right, weaker}
use Rattle.cy_network_relevance.proofs.masks.conditions.label_tested.Goals as goal

pub returns-in-Some : goal.returns-in-Some
returns-in-Some c =
    let whole = expression_of c.loop-test.test.now in
    let left = expression_of c.in-Binary-And-default-default.left.value in
    let right = expression_of c.in-Binary-And-default-default.right.value in
    let is : expression_of c.loop-test.test.now ≡ binary And (expression_of c.in-Binary-And-default-default.left.value) (expression_of c.in-Binary-And-default-default.right.value) = search (rules, the_lemmas) in
    let found = c.in-Some.ensures in
    let label = c.in-Some.label.now in
    c.loop-test.invariant label (asks_right label whole left right is (asks_in label right found.0 (sym (ap expression_of c.deref.ensures) ∙ found.1.0) found.1.1))

pub loop-test-preserved : goal.loop-test-preserved
loop-test-preserved c = λ label asks.
    let whole = expression_of c.loop-test.test.now in
    let left = expression_of c.in-Binary-And-default-default.left.value in
    let right = expression_of c.in-Binary-And-default-default.right.value in
    let is : expression_of c.loop-test.test.now ≡ binary And (expression_of c.in-Binary-And-default-default.left.value) (expression_of c.in-Binary-And-default-default.right.value) = search (rules, the_lemmas) in
    c.loop-test.invariant label (asks_left label whole left right is (subst (λ (e : Expr). Asks label (expression_of e)) c.deref-test.ensures asks))

pub returns-in_default : goal.returns-in_default
returns-in_default c =
    let whole = expression_of c.loop-test.test.now in
    weaker (λ (label : Bor Name). (labels : Expression) × ((whole ≡ binary In (text label.now) labels) × (is_column 1 (computed labels) ≡ true))) (λ label. Asks label.now (expression_of c.args.test.now))
    (λ label found. c.loop-test.invariant label.now (asks_in label.now whole found.0 found.1.0 found.1.1)) c.label_in-in_default.result c.label_in-in_default.ensures
