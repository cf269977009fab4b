-- Conditions that are the same, are one.
use Rattle.std.specs.Prelude.{if◌then◌else◌}
use Rattle.std.proofs.Common.{◌≡◌, Box, Global, ℕ, zero, suc, Bool, true, false, ◌&&◌, Option, None, Some, refl, sym, ap, ◌∙◌}
use Rattle.std.specs.Str.{bytes_eq}
use Rattle.std.specs.Cmp.Lexicographic.{same_text}
use Rattle.std.proofs.lemmas.Bool.{eqb-true, false≢true, and_parts}
use Rattle.std.proofs.lemmas.Bool.Decides.{Decides-int_eq}
use Rattle.cy_trees.specs.TreeModels.{expression_of, expression_step}
use Rattle.cy_trees.specs.declared.expressions.Expr.{Expr}
use Rattle.cy_trees.specs.declared.expressions.Expr.TheFolds.{fold-roll-Expr}
use Rattle.cy_trees.specs.declared.expressions.Expr.TheVariants as expr
use Rattle.cy_trees.specs.Trees.{Expression, boolean, integer, text, variable, binary, comparison, Links, no_links, link}
use Rattle.cy_trees.specs.declared.expressions.BinaryOperator.{BinaryOperator}
use Rattle.cy_trees.specs.declared.expressions.BinaryOperator.TheVariants.{And, In}
use Rattle.cy_trees.specs.declared.expressions.Comparator.{Comparator}
use Rattle.cy_trees.specs.declared.expressions.Comparator.TheVariants.{Equal}
use Rattle.cy_trees.specs.declared.expressions.Variable.{Variable}
use Rattle.cy_network_parts.specs.SameConditions.{are_and, are_equal, are_in, same_column, same_condition, same_link, same_links, same_operand, same_truth, same_variable}

column_is : (a b : Option ℕ) → same_column a b ≡ true → a ≡ b
column_is None None same = refl
column_is None (Some d) same = absurd (false≢true same)
column_is (Some c) None same = absurd (false≢true same)
column_is (Some c) (Some d) same = ap Some (eqb-true c d same)

pub variable_is : (v w : Variable) → same_variable v w ≡ true → v ≡ w
variable_is v w same =
    let parts = and_parts (bytes_eq v.name w.name) (same_column v.column w.column) same in
    let name = same_text v.name w.name (sym parts.0) in
    let column = column_is v.column w.column parts.1 in
    λ i. record { name = name i; column = column i }

truth_is : (a b : Bool) → same_truth a b ≡ true → a ≡ b
truth_is true b same = sym same
truth_is false true same = absurd (false≢true same)
truth_is false false same = refl

operand_is : (e f : Expression) → same_operand e f ≡ true → e ≡ f
operand_is (boolean a) (boolean b) same = ap boolean (truth_is a b same)
operand_is (integer m) (integer n) same = ap integer ((Decides-int_eq m n).0 same)
operand_is (text s) (text t) same = ap text (same_text s t (sym same))
operand_is (variable v) (variable w) same = ap variable (variable_is v w same)
operand_is _ _ same = absurd (false≢true same)

-- operators that are both the same one
ands_are : (o p : BinaryOperator) → are_and o p ≡ true → o ≡ p
ands_are And And same = refl
ands_are _ _ same = absurd (false≢true same)

ins_are : (o p : BinaryOperator) → are_in o p ≡ true → o ≡ p
ins_are In In same = refl
ins_are _ _ same = absurd (false≢true same)

equals_are : (c d : Comparator) → are_equal c d ≡ true → c ≡ d
equals_are Equal Equal same = refl
equals_are _ _ same = absurd (false≢true same)

links_are : (ls ms : Links) → same_links ls ms ≡ true → ls ≡ ms
links_are no_links no_links same = refl
links_are (link c a ls) (link d b ms) same =
    let parts = and_parts (same_link (c, a) (d, b)) (same_links ls ms) same in
    let first = and_parts (are_equal c d) (same_operand a b) parts.0 in
    ap (λ x. link x a ls) (equals_are c d first.0) ∙ ap (λ e. link d e ls) (operand_is a b first.1) ∙ ap (link d b) (links_are ls ms parts.1)
links_are _ _ same = absurd (false≢true same)

-- conditions that are the same
pub condition_is : (deep : ℕ) (e f : Expression) → same_condition deep e f ≡ true → e ≡ f
condition_is zero e f same = absurd (false≢true same)
condition_is (suc deep) (binary o a b) (binary p c d) same = by (are_and o p) refl (condition_is deep a c) (condition_is deep b d) same
  where
    made : (o ≡ p) → (a ≡ c) → (b ≡ d) → binary o a b ≡ binary p c d
    made one left right = ap (λ x. binary x a b) one ∙ ap (λ e. binary p e b) left ∙ ap (binary p c) right

    by : (x : Bool) → are_and o p ≡ x → (same_condition deep a c ≡ true → a ≡ c) → (same_condition deep b d ≡ true → b ≡ d) → (if x then same_condition deep a c && same_condition deep b d else (are_in o p && (same_operand a c && same_operand b d))) ≡ true → binary o a b ≡ binary p c d
    by true ands left right same =
        let parts = and_parts (same_condition deep a c) (same_condition deep b d) same in
        made (ands_are o p ands) (left parts.0) (right parts.1)
    by false ands left right same =
        let parts = and_parts (are_in o p) (same_operand a c && same_operand b d) same in
        let operands = and_parts (same_operand a c) (same_operand b d) parts.1 in
        made (ins_are o p parts.0) (operand_is a c operands.0) (operand_is b d operands.1)
condition_is (suc deep) (comparison a ls) (comparison b ms) same =
    let parts = and_parts (same_operand a b) (same_links ls ms) same in
    ap (λ e. comparison e ls) (operand_is a b parts.0) ∙ ap (comparison b) (links_are ls ms parts.1)
condition_is (suc deep) _ _ same = absurd (false≢true same)

-- a condition of two values by what its expression is made of
pub binary_of : (e : Expr) (o : BinaryOperator) (left right : Box Expr Global) → e ≡ expr.Binary o left right → expression_of e ≡ binary o (expression_of left.value) (expression_of right.value)
binary_of e o left right is = ap expression_of (is ∙ sym (expr.rolls-Binary o left right)) ∙ fold-roll-Expr Expression (Expression × Expression) (Comparator × Expression) expression_step _ _ _

-- what the code asks of conditions that a value is in a list
pub membership : (deep : ℕ) (e f : Expression) (o p : BinaryOperator) (a b c d : Expression) → e ≡ binary o a b → f ≡ binary p c d → (deep ≡ 0 → ⊥) → are_and o p ≡ false → are_in o p ≡ true
    → (same_operand a c && same_operand b d) ≡ same_condition deep e f
membership zero e f o p a b c d e_is f_is some ands ins = absurd (some refl)
membership (suc deep) e f o p a b c d e_is f_is some ands ins =
    sym (ap (λ x. same_condition (suc deep) x f) e_is ∙ ap (same_condition (suc deep) (binary o a b)) f_is
    ∙ ap (λ x. if x then same_condition deep a c && same_condition deep b d else (are_in o p && (same_operand a c && same_operand b d))) ands
    ∙ ap (λ x. x && (same_operand a c && same_operand b d)) ins)
