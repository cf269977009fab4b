-- What an expression gives, by what its parts give.
use Rattle.std.proofs.Common.{◌≡◌, ◌⊎◌, Bool, inl, inr, ◌∙◌, List, Vec, Global, map, rules, sym, ap, subst}
use Rattle.std.specs.Prelude.{Option, Some, None, Result, Ok, Err, IsErr, IsErrAnd}
use Rattle.std.specs.declared.boxed.Box.{Box}
use Rattle.cy_values.specs.declared.rows.Cell.{Cell}
use Rattle.cy_trees.specs.declared.expressions.Arm.{Arm}
use Rattle.cy_trees.specs.declared.expressions.BinaryOperator.{BinaryOperator}
use Rattle.cy_trees.specs.declared.expressions.Expr as coded
use Rattle.cy_trees.specs.declared.expressions.Expr.{Expr, the_lemmas}
use Rattle.cy_trees.specs.declared.expressions.Link.{Link}
use Rattle.cy_trees.specs.declared.expressions.UnaryOperator.{UnaryOperator}
use Rattle.cy_trees.specs.Trees.{Name, Expression, property, has_labels, unary, binary, comparison, list, case, call}
use Rattle.cy_trees.specs.TreeModels.{arm_of, arms_from, expression_of, expressions_from, link_of, links_from}
use Rattle.cy_scope_kinds.specs.internal.ExpressionTrees.{otherwise_of}
use Rattle.cy_expr.specs.declared.faults.EvalFault.{EvalFault}
use Rattle.cy_expr.specs.declared.faults.EvalFault.TheVariants.{NoMemory}
use Rattle.cy_expr.specs.declared.held.Held.{Held}
use Rattle.cy_expr.specs.Evaluation.{as_cell, cell_of, outcome_of_else, outcomes_of_arms}
use Rattle.cy_expr.specs.Lookups.{Lookups}
use Rattle.cy_expr.specs.internal.Arms.{chosen}
use Rattle.cy_expr.specs.internal.Lent.{Gives, GivesOrWants}
use Rattle.cy_expr.proofs.Rules.{choice_chosen, failed, or_else}

-- ---- the trees of the code's expressions

module _ (e : Expr) where
  pub property_at : (owner : Box Expr Global) (key shown : Name) (inner : Expr) → e ≡ coded.Property owner key → inner ≡ owner.value → shown ≡ key → expression_of e ≡ property (expression_of inner) shown
  property_at owner key shown inner is same alike =
      let made : expression_of (coded.Property owner key) ≡ property (expression_of owner.value) key = search (rules, the_lemmas) in
      ap expression_of is ∙ made ∙ (λ i. property (expression_of (sym same i)) (sym alike i))

  pub labels_at : (owner : Box Expr Global) (labels : Vec Name Global) (shown : List Name) (inner : Expr) → e ≡ coded.HasLabels owner labels → inner ≡ owner.value → shown ≡ labels.items → expression_of e ≡ has_labels (expression_of inner) shown
  labels_at owner labels shown inner is same alike =
      let made : expression_of (coded.HasLabels owner labels) ≡ has_labels (expression_of owner.value) labels.items = search (rules, the_lemmas) in
      ap expression_of is ∙ made ∙ (λ i. has_labels (expression_of (sym same i)) (sym alike i))

  pub unary_at : (operator : UnaryOperator) (operand : Box Expr Global) (inner : Expr) → e ≡ coded.Unary operator operand → inner ≡ operand.value → expression_of e ≡ unary operator (expression_of inner)
  unary_at operator operand inner is same =
      let made : expression_of (coded.Unary operator operand) ≡ unary operator (expression_of operand.value) = search (rules, the_lemmas) in
      ap expression_of is ∙ made ∙ (λ i. unary operator (expression_of (sym same i)))

  pub binary_at : (operator : BinaryOperator) (left right : Box Expr Global) (a b : Expr) → e ≡ coded.Binary operator left right → a ≡ left.value → b ≡ right.value → expression_of e ≡ binary operator (expression_of a) (expression_of b)
  binary_at operator left right a b is first second =
      let made : expression_of (coded.Binary operator left right) ≡ binary operator (expression_of left.value) (expression_of right.value) = search (rules, the_lemmas) in
      ap expression_of is ∙ made ∙ (λ i. binary operator (expression_of (sym first i)) (expression_of (sym second i)))

  pub comparison_at : (first : Box Expr Global) (links : Vec Link Global) (inner : Expr) (shown : List Link) → e ≡ coded.Comparison first links → inner ≡ first.value → shown ≡ links.items → expression_of e ≡ comparison (expression_of inner) (links_from (map link_of shown))
  comparison_at first links inner shown is same alike =
      let made : expression_of (coded.Comparison first links) ≡ comparison (expression_of first.value) (links_from (map link_of links.items)) = search (rules, the_lemmas) in
      ap expression_of is ∙ made ∙ (λ i. comparison (expression_of (sym same i)) (links_from (map link_of (sym alike i))))

  pub list_at : (elements : Vec Expr Global) (shown : List Expr) → e ≡ coded.List elements → shown ≡ elements.items → expression_of e ≡ list (expressions_from (map expression_of shown))
  list_at elements shown is alike =
      let made : expression_of (coded.List elements) ≡ list (expressions_from (map expression_of elements.items)) = search (rules, the_lemmas) in
      ap expression_of is ∙ made ∙ (λ i. list (expressions_from (map expression_of (sym alike i))))

  pub call_at : (name shown_name : Name) (distinct : Bool) (arguments : Vec Expr Global) (shown : List Expr) → e ≡ coded.Call name distinct arguments → shown_name ≡ name → shown ≡ arguments.items
      → expression_of e ≡ call shown_name distinct (expressions_from (map expression_of shown))
  call_at name shown_name distinct arguments shown is same alike =
      let made : expression_of (coded.Call name distinct arguments) ≡ call name distinct (expressions_from (map expression_of arguments.items)) = search (rules, the_lemmas) in
      ap expression_of is ∙ made ∙ (λ i. call (sym same i) distinct (expressions_from (map expression_of (sym alike i))))

  pub case_at : (arms : Vec Arm Global) (shown : List Arm) (other : Option (Box Expr Global)) → e ≡ coded.Case arms other → shown ≡ arms.items → expression_of e ≡ case (arms_from (map arm_of shown)) (otherwise_of other)
  case_at arms shown other is alike = ap expression_of is ∙ case_is other ∙ (λ i. case (arms_from (map arm_of (sym alike i))) (otherwise_of other))
    where
      case_is : (o : Option (Box Expr Global)) → expression_of (coded.Case arms o) ≡ case (arms_from (map arm_of arms.items)) (otherwise_of o)
      case_is None = search (rules, the_lemmas)
      case_is (Some b) = search (rules, the_lemmas)

-- ---- what is given

-- a cell or a fault, whatever memory there is
pub sure : (r : Result Held EvalFault) (x : Result Cell EvalFault) → Gives r x → GivesOrWants r x
sure (Ok h) x is = is
sure (Err fault) x is = inl is

module _ (graph : Lookups) (row : List Cell) (r : Result Held EvalFault) (e : Expr) where
  -- what is given for a tree is given for the expression
  pub whole : (x : Expression) → expression_of e ≡ x → GivesOrWants r (cell_of graph row x) → GivesOrWants r (cell_of graph row (expression_of e))
  whole x is given = subst (λ (y : Expression). GivesOrWants r (cell_of graph row y)) (sym is) given

  -- a part gave its cell
  pub after : (over : Result Cell EvalFault → Result Cell EvalFault) (part : Expr) (c : Cell) → cell_of graph row (expression_of part) ≡ Ok c → cell_of graph row (expression_of e) ≡ over (cell_of graph row (expression_of part)) → GivesOrWants r (over (Ok c)) → GivesOrWants r (cell_of graph row (expression_of e))
  after over part c known meant given = subst (λ (y : Result Cell EvalFault). GivesOrWants r y) (sym (meant ∙ ap over known)) given

  -- or a fault, which the expression has then
  pub stopped : (over : Result Cell EvalFault → Result Cell EvalFault) (part : Expr) (fault : EvalFault) → over (Err fault) ≡ Err fault → cell_of graph row (expression_of e) ≡ over (cell_of graph row (expression_of part))
      → IsErr r × IsErrAnd r (λ f. f ≡ fault) → (cell_of graph row (expression_of part) ≡ Err fault) ⊎ (fault ≡ NoMemory) → GivesOrWants r (cell_of graph row (expression_of e))
  stopped over part fault strict meant given (inl known) = failed _ _ r fault given (inl (meant ∙ ap over known ∙ strict))
  stopped over part fault strict meant given (inr want) = failed _ _ r fault given (inr want)

  module _ (arms : List Arm) (other : Option (Box Expr Global)) (is : expression_of e ≡ case (arms_from (map arm_of arms)) (otherwise_of other)) where
    by_arms : (d : Result (Option Cell) EvalFault) → chosen (outcomes_of_arms graph row (arms_from (map arm_of arms))) ≡ d → cell_of graph row (expression_of e) ≡ or_else d (as_cell (outcome_of_else graph row (otherwise_of other)))
    by_arms d known =
        ap (cell_of graph row) is
        ∙ choice_chosen (outcomes_of_arms graph row (arms_from (map arm_of arms))) (outcome_of_else graph row (otherwise_of other))
        ∙ ap (λ (z : Result (Option Cell) EvalFault). or_else z (as_cell (outcome_of_else graph row (otherwise_of other)))) known

    -- an arm was chosen, or none was
    pub after_arms : (d : Result (Option Cell) EvalFault) → chosen (outcomes_of_arms graph row (arms_from (map arm_of arms))) ≡ d → GivesOrWants r (or_else d (as_cell (outcome_of_else graph row (otherwise_of other)))) → GivesOrWants r (cell_of graph row (expression_of e))
    after_arms d known given = subst (λ (y : Result Cell EvalFault). GivesOrWants r y) (sym (by_arms d known)) given

    -- or there was a fault before
    pub arms_stopped : (fault : EvalFault) → IsErr r × IsErrAnd r (λ f. f ≡ fault) → (chosen (outcomes_of_arms graph row (arms_from (map arm_of arms))) ≡ Err fault) ⊎ (fault ≡ NoMemory) → GivesOrWants r (cell_of graph row (expression_of e))
    arms_stopped fault given (inl known) = failed _ _ r fault given (inl (by_arms (Err fault) known))
    arms_stopped fault given (inr want) = failed _ _ r fault given (inr want)
