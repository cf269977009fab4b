-- The words of a tree are those of its form and then those of its parts.
use Rattle.std.proofs.Common.{◌≡◌, ℕ, List, map, rules, refl, sym, ap, subst, ◌∙◌}
use Rattle.std.specs.Prelude.{OnOk, Result}
use Rattle.cy_trees.specs.declared.expressions.Expr.{Expr, the_lemmas}
use Rattle.cy_trees.specs.Trees.{Expression, property, has_labels, unary, binary, comparison, list, case, call}
use Rattle.cy_trees.specs.TreeModels.{arm_of, arms_from, expression_of, expressions_from, link_of, links_from}
use Rattle.cy_scope_kinds.specs.internal.ExpressionTrees.{otherwise_of}
use Rattle.cy_scope_kinds.specs.internal.TreeWords.{binary_word, form_word, unary_word, with_arms, with_elements, with_flag, with_links, with_names, with_otherwise, with_text, with_tree, with_word}
use Rattle.cy_scope_kinds.proofs.tree_words.+adding.Goals as goal

-- the words that are there, which those before are made of
handed : {A E : Type 0} (r : Result A E) (words front back : List ℕ) → front ≡ back → OnOk r (words ≡ front) → OnOk r (words ≡ back)
handed r words front back same given = subst (λ (x : List ℕ). OnOk r (words ≡ x)) same given

formed : {A E : Type 0} (r : Result A E) (words : List ℕ) (e : Expr) (before after : List ℕ) (word : ℕ) (tree : Expression) (rest : List ℕ → List ℕ) → ((ws : List ℕ) → rest (with_word ws (form_word tree)) ≡ with_tree ws tree)
    → expression_of e ≡ tree → word ≡ form_word (expression_of e) → after ≡ with_word before word → OnOk r (words ≡ rest after) → OnOk r (words ≡ with_tree before (expression_of e))
formed r words e before after word tree rest makes is first one given =
    handed r words (rest after) (with_tree before (expression_of e))
    (ap rest (one ∙ ap (with_word before) (first ∙ ap form_word is)) ∙ makes before ∙ sym (ap (with_tree before) is)) given

pub add_tree-returns-in_ok-add_tree-in-Property : goal.add_tree-returns-in_ok-add_tree-in-Property
add_tree-returns-in_ok-add_tree-in-Property t c =
    let tree : Expression = property (expression_of c.deref.result.now) c.as_str-in-Property.result.now in
    let is : expression_of c.args.expression.now ≡ tree = search (rules, the_lemmas) in
    formed c.add_text-in-Property.result c.add_text-in-Property.new.words.items c.args.expression.now c.args.words.now.items c.add_word.new.words.items c.form_word.result tree
    (λ ws. with_text (with_tree ws (expression_of c.deref.result.now)) c.as_str-in-Property.result.now) (λ ws. refl) is c.form_word.ensures c.in_ok-add_word.ensures
    (handed c.add_text-in-Property.result c.add_text-in-Property.new.words.items _ _ (ap (λ ws. with_text ws c.as_str-in-Property.result.now) c.in_ok-add_tree-in-Property.ensures) c.add_text-in-Property.ensures)

pub add_tree-returns-in_ok-add_tree-in-HasLabels : goal.add_tree-returns-in_ok-add_tree-in-HasLabels
add_tree-returns-in_ok-add_tree-in-HasLabels t c =
    let tree : Expression = has_labels (expression_of c.deref-in-HasLabels.result.now) c.deref-in-HasLabels-2.result.now in
    let is : expression_of c.args.expression.now ≡ tree = search (rules, the_lemmas) in
    formed c.add_names.result c.add_names.new.words.items c.args.expression.now c.args.words.now.items c.add_word.new.words.items c.form_word.result tree
    (λ ws. with_names (with_tree ws (expression_of c.deref-in-HasLabels.result.now)) c.deref-in-HasLabels-2.result.now) (λ ws. refl) is c.form_word.ensures c.in_ok-add_word.ensures
    (handed c.add_names.result c.add_names.new.words.items _ _ (ap (λ ws. with_names ws c.deref-in-HasLabels-2.result.now) c.in_ok-add_tree-in-HasLabels.ensures) c.add_names.ensures)

pub add_tree-returns-in_ok-add_word-in-Unary : goal.add_tree-returns-in_ok-add_word-in-Unary
add_tree-returns-in_ok-add_word-in-Unary t c =
    let tree : Expression = unary c.in-Unary.operator (expression_of c.deref-in-Unary.result.now) in
    let is : expression_of c.args.expression.now ≡ tree = search (rules, the_lemmas) in
    formed c.add_tree-in-Unary.result c.add_tree-in-Unary.new.words.items c.args.expression.now c.args.words.now.items c.add_word.new.words.items c.form_word.result tree
    (λ ws. with_tree (with_word ws (unary_word c.in-Unary.operator)) (expression_of c.deref-in-Unary.result.now)) (λ ws. refl) is c.form_word.ensures c.in_ok-add_word.ensures
    (handed c.add_tree-in-Unary.result c.add_tree-in-Unary.new.words.items _ _ (ap (λ ws. with_tree ws (expression_of c.deref-in-Unary.result.now)) (c.in_ok-add_word-in-Unary.ensures ∙ ap (with_word c.add_word.new.words.items) c.unary_word.ensures)) c.add_tree-in-Unary.ensures)

pub add_tree-returns-in_ok-add_tree-in-Binary : goal.add_tree-returns-in_ok-add_tree-in-Binary
add_tree-returns-in_ok-add_tree-in-Binary t c =
    let tree : Expression = binary c.in-Binary.operator (expression_of c.deref-in-Binary.result.now) (expression_of c.deref-in-Binary-2.result.now) in
    let is : expression_of c.args.expression.now ≡ tree = search (rules, the_lemmas) in
    formed c.add_tree-in-Binary-2.result c.add_tree-in-Binary-2.new.words.items c.args.expression.now c.args.words.now.items c.add_word.new.words.items c.form_word.result tree
    (λ ws. with_tree (with_tree (with_word ws (binary_word c.in-Binary.operator)) (expression_of c.deref-in-Binary.result.now)) (expression_of c.deref-in-Binary-2.result.now)) (λ ws. refl) is c.form_word.ensures c.in_ok-add_word.ensures
    (handed c.add_tree-in-Binary-2.result c.add_tree-in-Binary-2.new.words.items _ _ (ap (λ ws. with_tree ws (expression_of c.deref-in-Binary-2.result.now)) (c.in_ok-add_tree-in-Binary.ensures ∙ ap (λ ws. with_tree ws (expression_of c.deref-in-Binary.result.now)) (c.in_ok-add_word-in-Binary.ensures ∙ ap (with_word c.add_word.new.words.items) c.binary_word.ensures))) c.add_tree-in-Binary-2.ensures)

pub add_tree-returns-in_ok-add_tree-in-Comparison : goal.add_tree-returns-in_ok-add_tree-in-Comparison
add_tree-returns-in_ok-add_tree-in-Comparison t c =
    let tree : Expression = comparison (expression_of c.deref-in-Comparison.result.now) (links_from (map link_of c.deref-in-Comparison-2.result.now)) in
    let is : expression_of c.args.expression.now ≡ tree = search (rules, the_lemmas) in
    formed c.add_links.result c.add_links.new.words.items c.args.expression.now c.args.words.now.items c.add_word.new.words.items c.form_word.result tree
    (λ ws. with_links (with_tree ws (expression_of c.deref-in-Comparison.result.now)) (links_from (map link_of c.deref-in-Comparison-2.result.now))) (λ ws. refl) is c.form_word.ensures c.in_ok-add_word.ensures
    (handed c.add_links.result c.add_links.new.words.items _ _ (ap (λ ws. with_links ws (links_from (map link_of c.deref-in-Comparison-2.result.now))) c.in_ok-add_tree-in-Comparison.ensures) c.add_links.ensures)

pub add_tree-returns-in_ok-add_arms-in-Case : goal.add_tree-returns-in_ok-add_arms-in-Case
add_tree-returns-in_ok-add_arms-in-Case t c =
    let tree : Expression = case (arms_from (map arm_of c.deref-in-Case.result.now)) (otherwise_of c.in-Case.otherwise) in
    let is : expression_of c.args.expression.now ≡ tree = search (rules, the_lemmas) in
    formed c.add_otherwise.result c.add_otherwise.new.words.items c.args.expression.now c.args.words.now.items c.add_word.new.words.items c.form_word.result tree
    (λ ws. with_otherwise (with_arms ws (arms_from (map arm_of c.deref-in-Case.result.now))) (otherwise_of c.in-Case.otherwise)) (λ ws. refl) is c.form_word.ensures c.in_ok-add_word.ensures
    (handed c.add_otherwise.result c.add_otherwise.new.words.items _ _ (ap (λ ws. with_otherwise ws (otherwise_of c.in-Case.otherwise)) c.in_ok-add_arms-in-Case.ensures) c.add_otherwise.ensures)

pub add_tree-returns-in-Call : goal.add_tree-returns-in-Call
add_tree-returns-in-Call t c =
    let tree : Expression = call c.in-Call.name c.in-Call.distinct (expressions_from (map expression_of c.deref-in-Call.result.now)) in
    let is : expression_of c.args.expression.now ≡ tree = search (rules, the_lemmas) in
    formed c.add_call.result c.add_call.new.words.items c.args.expression.now c.args.words.now.items c.add_word.new.words.items c.form_word.result tree
    (λ ws. with_elements (with_flag (with_text ws c.in-Call.name) c.in-Call.distinct) (expressions_from (map expression_of c.deref-in-Call.result.now))) (λ ws. refl) is c.form_word.ensures c.in_ok-add_word.ensures
    c.add_call.ensures

pub add_tree-returns-in-List : goal.add_tree-returns-in-List
add_tree-returns-in-List t c =
    let tree : Expression = list (expressions_from (map expression_of c.deref-in-List.result.now)) in
    let is : expression_of c.args.expression.now ≡ tree = search (rules, the_lemmas) in
    formed c.add_elements.result c.add_elements.new.words.items c.args.expression.now c.args.words.now.items c.add_word.new.words.items c.form_word.result tree
    (λ ws. with_elements ws (expressions_from (map expression_of c.deref-in-List.result.now))) (λ ws. refl) is c.form_word.ensures c.in_ok-add_word.ensures
    c.add_elements.ensures
