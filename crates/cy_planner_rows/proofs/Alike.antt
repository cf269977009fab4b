-- Conditions in which AND joins the same ones.
use Rattle.std.proofs.Common.{◌≡◌, ◌≤◌, Bool, true, ◌&&◌, List, [], ◌∷◌, ◌++◌, length, refl, sym, ap, subst, ◌∙◌, arith}
use Rattle.std.specs.Prelude.{IsTrue, Option, None, Some, Result, Ok, Err, get_or}
use Rattle.std.specs.List.{AllByRecursion}
use Rattle.std.proofs.lemmas.Bool.{and_from, and_parts}
use Rattle.std.proofs.lemmas.List.{length-append}
use Rattle.cy_values.specs.declared.rows.Cell.{Cell}
use Rattle.cy_values.specs.declared.scalars.Value.{Value}
use Rattle.cy_values.specs.declared.truth.Truth.{Truth}
use Rattle.cy_values.specs.declared.truth.Truth.TheVariants.{No, Unknown, Yes}
use Rattle.cy_values.specs.Truth.{both}
use Rattle.cy_values.proofs.Booleans.{and_true, grouped_right}
use Rattle.cy_trees.specs.declared.expressions.BinaryOperator.TheVariants as operator
use Rattle.cy_trees.specs.declared.expressions.BinaryOperator.TheVariants.{And}
use Rattle.cy_trees.specs.Trees as tree
use Rattle.cy_trees.specs.Trees.{Expression, binary}
use Rattle.cy_scope_kinds.specs.declared.kinds.Kind.{Kind}
use Rattle.cy_scope_kinds.specs.declared.kinds.Kind.TheVariants as kind
use Rattle.cy_scope_kinds.specs.Kinded.{HasKind, IsKinded}
use Rattle.cy_scope_kinds.specs.Kinds.{is_value}
use Rattle.cy_scope_kinds.specs.Scopes.{Scope}
use Rattle.cy_expr.specs.declared.faults.EvalFault.{EvalFault}
use Rattle.cy_expr.specs.Evaluation.{as_cell, cell_of}
use Rattle.cy_expr.specs.Faults.{on_one, on_two}
use Rattle.cy_expr.specs.Logic.{conjunction, truth_of, value_of}
use Rattle.cy_expr.specs.Lookups.{Lookups}
use Rattle.cy_expr.specs.Operators.{value_in_cell}
use Rattle.cy_expr.specs.Reading.{reads_below, reads_columns}
use Rattle.cy_expr.proofs.Rules.{both-both}
use Rattle.cy_planner_rows.specs.internal.Alike.{IsAlike, if_ok, truth_on}
use Rattle.cy_planner_rows.specs.internal.Conjuncts.{conjuncts}

-- ---- a condition is an AND, or it is the only one in it

pub one_or_both : (P : Expression → Type 0) → ((a b : Expression) → P a → P b → P (binary And a b)) → ((e : Expression) → conjuncts e ≡ e ∷ [] → P e) → (e : Expression) → P e
one_or_both P and one tree.null = one tree.null refl
one_or_both P and one (tree.boolean b) = one (tree.boolean b) refl
one_or_both P and one (tree.integer n) = one (tree.integer n) refl
one_or_both P and one (tree.text t) = one (tree.text t) refl
one_or_both P and one (tree.variable v) = one (tree.variable v) refl
one_or_both P and one (tree.property e key) = one (tree.property e key) refl
one_or_both P and one (tree.has_labels e labels) = one (tree.has_labels e labels) refl
one_or_both P and one (tree.unary o e) = one (tree.unary o e) refl
one_or_both P and one (binary operator.Or a b) = one (binary operator.Or a b) refl
one_or_both P and one (binary operator.Xor a b) = one (binary operator.Xor a b) refl
one_or_both P and one (binary And a b) = and a b (one_or_both P and one a) (one_or_both P and one b)
one_or_both P and one (binary operator.In a b) = one (binary operator.In a b) refl
one_or_both P and one (binary operator.Contains a b) = one (binary operator.Contains a b) refl
one_or_both P and one (binary operator.StartsWith a b) = one (binary operator.StartsWith a b) refl
one_or_both P and one (binary operator.EndsWith a b) = one (binary operator.EndsWith a b) refl
one_or_both P and one (binary operator.Add a b) = one (binary operator.Add a b) refl
one_or_both P and one (binary operator.Subtract a b) = one (binary operator.Subtract a b) refl
one_or_both P and one (binary operator.Multiply a b) = one (binary operator.Multiply a b) refl
one_or_both P and one (binary operator.Divide a b) = one (binary operator.Divide a b) refl
one_or_both P and one (binary operator.Remainder a b) = one (binary operator.Remainder a b) refl
one_or_both P and one (tree.comparison e links) = one (tree.comparison e links) refl
one_or_both P and one (tree.list es) = one (tree.list es) refl
one_or_both P and one (tree.case arms e) = one (tree.case arms e) refl
one_or_both P and one (tree.call name distinct es) = one (tree.call name distinct es) refl
one_or_both P and one (tree.call_star name) = one (tree.call_star name) refl

pub one_at_least : (e : Expression) → 1 ≤ length (conjuncts e)
one_at_least =
    one_or_both (λ e. 1 ≤ length (conjuncts e))
    (λ a b here there. let long = length-append (conjuncts a) (conjuncts b) in omega (arith, here, there, long))
    (λ e is. subst (λ (es : List Expression). 1 ≤ length es) (sym is) (omega arith))

-- ---- truth

-- that of AND, if both have one
abbrev both_of : Option Truth → Option Truth → Option Truth
both_of (Some t) (Some u) = Some (both t u)
both_of (Some t) None = None
both_of None o = None

of_again : (o p q : Option Truth) → both_of (both_of o p) q ≡ both_of o (both_of p q)
of_again (Some t) (Some u) (Some v) = ap (λ w. Some w) (both-both t u v)
of_again (Some t) (Some u) None = refl
of_again (Some t) None q = refl
of_again None p q = refl

yes_before : (o : Option Truth) → both_of (Some Yes) o ≡ o
yes_before (Some Yes) = refl
yes_before (Some No) = refl
yes_before (Some Unknown) = refl
yes_before None = refl

yes_after : (o : Option Truth) → both_of o (Some Yes) ≡ o
yes_after (Some Yes) = refl
yes_after (Some No) = refl
yes_after (Some Unknown) = refl
yes_after None = refl

truth_back : (t : Truth) → truth_of (value_of t) ≡ Ok t
truth_back Yes = refl
truth_back No = refl
truth_back Unknown = refl

joined_truth : (o p : Result Truth EvalFault) → if_ok (on_one truth_of (on_two (λ a b. Ok (value_of (both a b))) o p)) ≡ both_of (if_ok o) (if_ok p)
joined_truth (Ok t) (Ok u) = ap if_ok (truth_back (both t u))
joined_truth (Ok t) (Err fault) = refl
joined_truth (Err fault) p = refl

pub in_cell : (o : Result Value EvalFault) → on_one value_in_cell (as_cell o) ≡ o
in_cell (Ok v) = refl
in_cell (Err fault) = refl

none_after : (o : Option Truth) → None ≡ both_of o None
none_after (Some t) = refl
none_after None = refl

and_truth : (v w : Result Value EvalFault) → if_ok (on_one truth_of (on_one value_in_cell (as_cell (on_two conjunction v w)))) ≡ both_of (if_ok (on_one truth_of v)) (if_ok (on_one truth_of w))
and_truth (Ok v) (Ok w) = ap (λ (o : Result Value EvalFault). if_ok (on_one truth_of o)) (in_cell (conjunction v w)) ∙ joined_truth (truth_of v) (truth_of w)
and_truth (Ok v) (Err fault) = none_after (if_ok (truth_of v))
and_truth (Err fault) w = refl

module _ (graph : Lookups) (row : List Cell) where
  abbrev truth_of_all : List Expression → Option Truth
  truth_of_all [] = Some Yes
  truth_of_all (e ∷ es) = both_of (truth_on graph row e) (truth_of_all es)

  all_of_both : (xs ys : List Expression) → truth_of_all (xs ++ ys) ≡ both_of (truth_of_all xs) (truth_of_all ys)
  all_of_both [] ys = sym (yes_before (truth_of_all ys))
  all_of_both (x ∷ xs) ys = ap (both_of (truth_on graph row x)) (all_of_both xs ys) ∙ sym (of_again (truth_on graph row x) (truth_of_all xs) (truth_of_all ys))

  by_conjuncts : (e : Expression) → truth_on graph row e ≡ truth_of_all (conjuncts e)
  by_conjuncts =
      one_or_both (λ e. truth_on graph row e ≡ truth_of_all (conjuncts e))
      (λ a b here there.
      and_truth (on_one value_in_cell (cell_of graph row a)) (on_one value_in_cell (cell_of graph row b))
      ∙ (λ i. both_of (here i) (there i))
      ∙ sym (all_of_both (conjuncts a) (conjuncts b)))
      (λ e is. sym (yes_after (truth_on graph row e)) ∙ sym (ap truth_of_all is))

-- ---- what is read

module _ (f : Expression → Bool) (splits : (a b : Expression) → f (binary And a b) ≡ (f a && f b)) where
  abbrev of_each : List Expression → Bool
  of_each [] = true
  of_each (e ∷ es) = f e && of_each es

  each_of_both : (xs ys : List Expression) → of_each (xs ++ ys) ≡ (of_each xs && of_each ys)
  each_of_both [] ys = refl
  each_of_both (x ∷ xs) ys = ap (λ b. f x && b) (each_of_both xs ys) ∙ sym (grouped_right (f x) (of_each xs) (of_each ys))

  by_each : (e : Expression) → f e ≡ of_each (conjuncts e)
  by_each =
      one_or_both (λ e. f e ≡ of_each (conjuncts e))
      (λ a b here there. splits a b ∙ (λ i. here i && there i) ∙ sym (each_of_both (conjuncts a) (conjuncts b)))
      (λ e is. sym (and_true (f e)) ∙ sym (ap of_each is))

  read_alike : (test other : Expression) → conjuncts other ≡ conjuncts test → f other ≡ f test
  read_alike test other same = by_each other ∙ ap of_each same ∙ sym (by_each test)

-- ---- kinds

-- the only condition in another one is that one
only_one : (t e : Expression) → conjuncts e ≡ t ∷ [] → e ≡ t
only_one t =
    one_or_both (λ e. conjuncts e ≡ t ∷ [] → e ≡ t)
    (λ a b here there is.
    absurd
    (let long = length-append (conjuncts a) (conjuncts b) in
    let more = one_at_least a in
    let others = one_at_least b in
    let short : length (conjuncts a ++ conjuncts b) ≡ 1 = ap length is in
    omega (arith, long, more, others, short)))
    (λ e one is. ap (λ (es : List Expression). get_or es 0 t) (sym one ∙ is))

module _ (scope : Scope) where
  abbrev IsOperand : Expression → Type 0
  IsOperand e = (k : Kind) × HasKind scope e k × IsTrue (is_value k)

  operands : (a b : Expression) → IsKinded scope (binary And a b) → IsOperand a × IsOperand b
  operands a b (k, is) =
      let values = and_parts (is_value is.1) (is_value is.2) is.5 in
      ((is.1, is.3, values.0), (is.2, is.4, values.1))

  both_operands : (a b : Expression) → IsOperand a → IsOperand b → IsOperand (binary And a b)
  both_operands a b (left, here, first) (right, there, second) = (kind.Flag, (refl, left, right, here, there, and_from (is_value left) (is_value right) first second), refl)

  all_split : (xs ys : List Expression) → AllByRecursion IsOperand xs → AllByRecursion IsOperand ys → AllByRecursion IsOperand (xs ++ ys)
  all_split [] ys here there = there
  all_split (x ∷ xs) ys here there = (here.0, all_split xs ys here.1 there)

  all_parts : (xs ys : List Expression) → AllByRecursion IsOperand (xs ++ ys) → AllByRecursion IsOperand xs × AllByRecursion IsOperand ys
  all_parts [] ys each = (tt, each)
  all_parts (x ∷ xs) ys each = let rest = all_parts xs ys each.1 in ((each.0, rest.0), rest.1)

  each_operand : (e : Expression) → IsOperand e → AllByRecursion IsOperand (conjuncts e)
  each_operand =
      one_or_both (λ e. IsOperand e → AllByRecursion IsOperand (conjuncts e))
      (λ a b here there is.
      let two = operands a b (is.0, is.1) in
      all_split (conjuncts a) (conjuncts b) (here two.0) (there two.1))
      (λ e one is. subst (λ (es : List Expression). AllByRecursion IsOperand es) (sym one) (is, tt))

  operand_back : (e : Expression) → AllByRecursion IsOperand (conjuncts e) → IsOperand e
  operand_back =
      one_or_both (λ e. AllByRecursion IsOperand (conjuncts e) → IsOperand e)
      (λ a b here there each.
      let two = all_parts (conjuncts a) (conjuncts b) each in
      both_operands a b (here two.0) (there two.1))
      (λ e one each. (subst (λ (es : List Expression). AllByRecursion IsOperand es) one each).0)

  kinded_alike : (other test : Expression) → conjuncts other ≡ conjuncts test → IsKinded scope test → IsKinded scope other
  kinded_alike other =
      one_or_both (λ test. conjuncts other ≡ conjuncts test → IsKinded scope test → IsKinded scope other)
      (λ a b here there same is.
      let two = operands a b is in
      let whole = operand_back other (subst (λ (es : List Expression). AllByRecursion IsOperand es) (sym same) (each_operand (binary And a b) (both_operands a b two.0 two.1))) in
      (whole.0, whole.1))
      (λ e one same is. subst (IsKinded scope) (sym (only_one e other (same ∙ one))) is)

pub alike : (test other : Expression) → conjuncts other ≡ conjuncts test → IsAlike test other
alike test other same = record {
  truth = λ graph row. by_conjuncts graph row other ∙ ap (truth_of_all graph row) same ∙ sym (by_conjuncts graph row test);
  columns = read_alike reads_columns (λ a b. refl) test other same;
  below = λ count. read_alike (reads_below count) (λ a b. refl) test other same;
  kinded = λ scope is. kinded_alike scope other test same is;
}
