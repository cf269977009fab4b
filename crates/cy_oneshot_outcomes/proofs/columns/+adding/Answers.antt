-- The columns of the parts follow one another.
use Rattle.std.proofs.Common.{◌≡◌, ℕ, List, map, rules, refl, sym, ap, subst, ◌∙◌}
use Rattle.std.specs.Prelude.{OnOk, Result}
use Rattle.cy_trees.specs.declared.expressions.Expr.{Expr, the_lemmas}
use Rattle.cy_trees.specs.Trees.{Expression, binary, case, comparison}
use Rattle.cy_trees.specs.TreeModels.{arm_of, arms_from, expression_of, link_of, links_from}
use Rattle.cy_scope_kinds.specs.internal.ExpressionTrees.{otherwise_of}
use Rattle.cy_oneshot_outcomes.specs.internal.Collected.{with_arms, with_columns, with_links, with_otherwise}
use Rattle.cy_oneshot_outcomes.proofs.columns.+adding.Goals as goal

-- the columns after one part, with those of the rest of a tree
collected : {A E : Type 0} (r : Result A E) (all before after : List ℕ) (e : Expr) (tree : Expression) (part rest : List ℕ → List ℕ) → ((cs : List ℕ) → rest (part cs) ≡ with_columns cs tree)
    → expression_of e ≡ tree → after ≡ part before → OnOk r (all ≡ rest after) → OnOk r (all ≡ with_columns before (expression_of e))
collected r all before after e tree part rest makes is first given =
    subst (λ (cs : List ℕ). OnOk r (all ≡ cs)) (ap rest first ∙ makes before ∙ sym (ap (with_columns before) is)) given

pub add_columns-returns-in_ok-add_columns-in-Binary : goal.add_columns-returns-in_ok-add_columns-in-Binary
add_columns-returns-in_ok-add_columns-in-Binary t c =
    let tree : Expression = binary c.in-Binary.field-0 (expression_of c.deref.result.now) (expression_of c.deref-in-Binary.result.now) in
    let is : expression_of c.args.expression.now ≡ tree = search (rules, the_lemmas) in
    collected c.add_columns-in-Binary.result c.add_columns-in-Binary.new.columns.items c.args.columns.now.items c.add_columns.new.columns.items c.args.expression.now tree
    (λ cs. with_columns cs (expression_of c.deref.result.now)) (λ cs. with_columns cs (expression_of c.deref-in-Binary.result.now)) (λ cs. refl) is c.in_ok-add_columns-in-Binary.ensures c.add_columns-in-Binary.ensures

pub add_columns-returns-in_ok-add_columns-in-Comparison : goal.add_columns-returns-in_ok-add_columns-in-Comparison
add_columns-returns-in_ok-add_columns-in-Comparison t c =
    let tree : Expression = comparison (expression_of c.deref-in-Comparison.result.now) (links_from (map link_of c.deref-in-Comparison-2.result.now)) in
    let is : expression_of c.args.expression.now ≡ tree = search (rules, the_lemmas) in
    collected c.add_of_links.result c.add_of_links.new.columns.items c.args.columns.now.items c.add_columns-in-Comparison.new.columns.items c.args.expression.now tree
    (λ cs. with_columns cs (expression_of c.deref-in-Comparison.result.now)) (λ cs. with_links cs (links_from (map link_of c.deref-in-Comparison-2.result.now))) (λ cs. refl) is c.in_ok-add_columns-in-Comparison.ensures c.add_of_links.ensures

pub add_columns-returns-in_ok-add_of_arms-in-Case : goal.add_columns-returns-in_ok-add_of_arms-in-Case
add_columns-returns-in_ok-add_of_arms-in-Case t c =
    let tree : Expression = case (arms_from (map arm_of c.deref-in-Case.result.now)) (otherwise_of c.in-Case.otherwise) in
    let is : expression_of c.args.expression.now ≡ tree = search (rules, the_lemmas) in
    collected c.add_of_otherwise.result c.add_of_otherwise.new.columns.items c.args.columns.now.items c.add_of_arms.new.columns.items c.args.expression.now tree
    (λ cs. with_arms cs (arms_from (map arm_of c.deref-in-Case.result.now))) (λ cs. with_otherwise cs (otherwise_of c.in-Case.otherwise)) (λ cs. refl) is c.in_ok-add_of_arms-in-Case.ensures c.add_of_otherwise.ensures
