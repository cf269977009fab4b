-- Stacks of conditions.
use Rattle.std.proofs.Common.{◌≡◌, ℕ, zero, suc, ◌+◌, ◌<◌, List, [], ◌∷◌, ◌++◌, length, map, refl, sym, ap, subst, ◌∙◌, arith}
use Rattle.std.specs.Prelude.{reverse}
use Rattle.std.proofs.lemmas.Grind.{reverse_onto}
use Rattle.std.proofs.lemmas.List.{append_assoc, append-nil, length-append, map-append}
use Rattle.cy_trees.specs.declared.expressions.Expr.{Expr}
use Rattle.cy_trees.specs.declared.expressions.BinaryOperator.TheVariants.{And}
use Rattle.cy_trees.specs.Trees.{Expression, binary}
use Rattle.cy_trees.specs.TreeModels.{expression_of}
use Rattle.cy_planner_rows.specs.internal.Conjuncts.{all_conjuncts, conjuncts}
use Rattle.cy_planner_rows.specs.internal.Opened.{AreFewer, branches, steps_left, waiting}
use Rattle.cy_planner_rows.proofs.Alike.{one_or_both}

pub waiting_last : (es : List Expr) (e : Expr) → waiting (es ++ e ∷ []) ≡ conjuncts (expression_of e) ++ waiting es
waiting_last [] e = sym (append-nil (conjuncts (expression_of e)))
waiting_last (d ∷ es) e = ap (λ l. l ++ conjuncts (expression_of d)) (waiting_last es e) ∙ append_assoc (conjuncts (expression_of e)) (waiting es) (conjuncts (expression_of d))

pub left_last : (es : List Expr) (e : Expr) → steps_left (es ++ e ∷ []) ≡ suc (branches (expression_of e)) + steps_left es
left_last [] e = refl
left_last (d ∷ es) e = let rest = left_last es e in omega (arith, rest)

pub all_last : (es : List Expr) (e : Expr) → all_conjuncts (es ++ e ∷ []) ≡ all_conjuncts es ++ conjuncts (expression_of e)
all_last [] e = append-nil (conjuncts (expression_of e))
all_last (d ∷ es) e = ap (λ l. conjuncts (expression_of d) ++ l) (all_last es e) ∙ sym (append_assoc (conjuncts (expression_of d)) (all_conjuncts es) (conjuncts (expression_of e)))

pub waiting_reversed : (es : List Expr) → waiting (reverse es) ≡ all_conjuncts es
waiting_reversed [] = refl
waiting_reversed (e ∷ es) = ap waiting (reverse_onto es e []) ∙ waiting_last (reverse es) e ∙ ap (λ l. conjuncts (expression_of e) ++ l) (waiting_reversed es)

-- ---- what is no AND stays as it is

abbrev flat : List Expression → List Expression
flat [] = []
flat (e ∷ es) = conjuncts e ++ flat es

flat_both : (xs ys : List Expression) → flat (xs ++ ys) ≡ flat xs ++ flat ys
flat_both [] ys = refl
flat_both (x ∷ xs) ys = ap (λ l. conjuncts x ++ l) (flat_both xs ys) ∙ sym (append_assoc (conjuncts x) (flat xs) (flat ys))

flat_again : (e : Expression) → flat (conjuncts e) ≡ conjuncts e
flat_again =
    one_or_both (λ e. flat (conjuncts e) ≡ conjuncts e)
    (λ a b here there. flat_both (conjuncts a) (conjuncts b) ∙ (λ i. here i ++ there i))
    (λ e is. ap flat is ∙ append-nil (conjuncts e))

all_flat : (es : List Expr) → all_conjuncts es ≡ flat (map expression_of es)
all_flat [] = refl
all_flat (e ∷ es) = ap (λ l. conjuncts (expression_of e) ++ l) (all_flat es)

pub conjuncts_again : (es : List Expr) (e : Expression) → map expression_of es ≡ conjuncts e → all_conjuncts es ≡ conjuncts e
conjuncts_again es e is = all_flat es ∙ ap flat is ∙ flat_again e

-- ---- one tree is taken apart

module _ (all rest : List Expr) (test : Expr) (last : all ≡ rest ++ test ∷ []) where
  module _ (once twice : List Expr) (left right : Expr) (first : once ≡ rest ++ right ∷ []) (second : twice ≡ once ++ left ∷ [])
      (opened : expression_of test ≡ binary And (expression_of left) (expression_of right)) where
    pub open_both : waiting twice ≡ waiting all
    open_both =
        ap waiting second
        ∙ waiting_last once left
        ∙ ap (λ l. conjuncts (expression_of left) ++ l) (ap waiting first ∙ waiting_last rest right)
        ∙ sym (append_assoc (conjuncts (expression_of left)) (conjuncts (expression_of right)) (waiting rest))
        ∙ ap (λ l. l ++ waiting rest) (sym (ap conjuncts opened))
        ∙ sym (waiting_last rest test)
        ∙ ap waiting (sym last)

    pub fewer_both : steps_left twice < steps_left all
    fewer_both =
        let one : steps_left all ≡ suc (branches (expression_of test)) + steps_left rest = ap steps_left last ∙ left_last rest test in
        let two : steps_left once ≡ suc (branches (expression_of right)) + steps_left rest = ap steps_left first ∙ left_last rest right in
        let three : steps_left twice ≡ suc (branches (expression_of left)) + steps_left once = ap steps_left second ∙ left_last once left in
        let four : branches (expression_of test) ≡ suc (suc (branches (expression_of left) + branches (expression_of right))) = ap branches opened in
        omega (arith, one, two, three, four)

  module _ (made : Expr) (found more : List Expr) (put : more ≡ found ++ made ∷ []) (same : expression_of made ≡ expression_of test) (alone : conjuncts (expression_of test) ≡ expression_of test ∷ []) where
    pub open_one : map expression_of more ++ waiting rest ≡ map expression_of found ++ waiting all
    open_one =
        ap (λ (es : List Expr). map expression_of es ++ waiting rest) put
        ∙ ap (λ l. l ++ waiting rest) (map-append expression_of found (made ∷ []))
        ∙ append_assoc (map expression_of found) (expression_of made ∷ []) (waiting rest)
        ∙ ap (λ l. map expression_of found ++ l)
        (ap (λ (e : Expression). e ∷ waiting rest) same
        ∙ ap (λ l. l ++ waiting rest) (sym alone)
        ∙ sym (waiting_last rest test)
        ∙ ap waiting (sym last))

  pub fewer_one : steps_left rest < steps_left all
  fewer_one = let one : steps_left all ≡ suc (branches (expression_of test)) + steps_left rest = ap steps_left last ∙ left_last rest test in omega (arith, one)

-- ---- pairs

pub fewer_pair : (count made left : ℕ) → AreFewer count made (suc (suc left)) → AreFewer count (suc made) left
fewer_pair count zero left is =
    let all : suc (suc left) ≡ count = is in
    (omega (arith, all), λ more. omega (arith, all, more))
fewer_pair count (suc made) left (within, fewer) = (omega (arith, within), λ more. let less = fewer more in omega (arith, less))

pub fewer_single : (count made : ℕ) → AreFewer count made 1 → AreFewer count (suc made) 0
fewer_single count zero is =
    let all : 1 ≡ count = is in
    (omega (arith, all), λ more. absurd (omega (arith, all, more)))
fewer_single count (suc made) (within, fewer) = (omega (arith, within), λ more. let less = fewer more in omega (arith, less))

-- ---- two are joined

module _ (all once rest made more : List Expr) (first second pair : Expr) (last : all ≡ once ++ first ∷ []) (next : once ≡ rest ++ second ∷ []) (put : more ≡ made ++ pair ∷ [])
    (is : expression_of pair ≡ binary And (expression_of first) (expression_of second)) where
  pub joined_two : all_conjuncts more ++ waiting rest ≡ all_conjuncts made ++ waiting all
  joined_two =
      ap (λ (es : List Expr). all_conjuncts es ++ waiting rest) put
      ∙ ap (λ l. l ++ waiting rest) (all_last made pair)
      ∙ append_assoc (all_conjuncts made) (conjuncts (expression_of pair)) (waiting rest)
      ∙ ap (λ l. all_conjuncts made ++ l)
      (ap (λ l. l ++ waiting rest) (ap conjuncts is)
      ∙ append_assoc (conjuncts (expression_of first)) (conjuncts (expression_of second)) (waiting rest)
      ∙ ap (λ l. conjuncts (expression_of first) ++ l) (sym (waiting_last rest second) ∙ ap waiting (sym next))
      ∙ sym (waiting_last once first)
      ∙ ap waiting (sym last))

  pub fewer_two : (count : ℕ) → AreFewer count (length made) (length all) → AreFewer count (length more) (length rest)
  fewer_two count before =
      let one : length all ≡ length once + 1 = ap length last ∙ length-append once (first ∷ []) in
      let two : length once ≡ length rest + 1 = ap length next ∙ length-append rest (second ∷ []) in
      let long : length all ≡ suc (suc (length rest)) = omega (arith, one, two) in
      let three : length more ≡ length made + 1 = ap length put ∙ length-append made (pair ∷ []) in
      let longer : suc (length made) ≡ length more = omega (arith, three) in
      subst (λ (n : ℕ). AreFewer count n (length rest)) longer (fewer_pair count (length made) (length rest) (subst (λ (n : ℕ). AreFewer count (length made) n) long before))

-- one is left
module _ (all once rest made more : List Expr) (first : Expr) (last : all ≡ once ++ first ∷ []) (none : once ≡ []) (none_after : rest ≡ []) (put : more ≡ made ++ first ∷ []) where
  alone : all ≡ first ∷ []
  alone = last ∙ ap (λ (es : List Expr). es ++ first ∷ []) none

  pub joined_one : all_conjuncts more ++ waiting rest ≡ all_conjuncts made ++ waiting all
  joined_one =
      (λ i. all_conjuncts (put i) ++ waiting (none_after i))
      ∙ append-nil (all_conjuncts (made ++ first ∷ []))
      ∙ all_last made first
      ∙ ap (λ l. all_conjuncts made ++ l) (sym (ap waiting alone))

  pub fewer_last_one : (count : ℕ) → AreFewer count (length made) (length all) → AreFewer count (length more) (length rest)
  fewer_last_one count before =
      let three : length more ≡ length made + 1 = ap length put ∙ length-append made (first ∷ []) in
      let longer : suc (length made) ≡ length more = omega (arith, three) in
      subst (λ (n : ℕ). AreFewer count (length more) n) (sym (ap length none_after))
      (subst (λ (n : ℕ). AreFewer count n 0) longer (fewer_single count (length made) (subst (λ (n : ℕ). AreFewer count (length made) n) (ap length alone) before)))
