-- Lists of expressions over columns, part by part.
use Rattle.std.proofs.Common.{◌≡◌, ℕ, Bool, true, false, List, [], ◌∷◌, length, get_or, map, Some, Option, Vec, Global, refl, sym, ap, ◌∙◌, arith, rules}
use Rattle.std.specs.declared.boxed.Box.{Box}
use Rattle.cy_trees.specs.declared.expressions.Arm.{Arm, roll-Arm}
use Rattle.cy_trees.specs.declared.expressions.BinaryOperator.TheVariants.{In}
use Rattle.cy_trees.specs.declared.expressions.Expr.{Expr, Boolean, Call, Case, Null, the_lemmas}
use Rattle.cy_trees.specs.declared.expressions.UnaryOperator.TheVariants.{IsNull, Not}
use Rattle.cy_trees.specs.declared.expressions.Comparator.{Comparator}
use Rattle.cy_trees.specs.Trees.{Name, Expression, Arms, more, link, arm, binary, boolean, call, case, null, otherwise, text, unary}
use Rattle.cy_trees.specs.TreeModels.{arm_of, expression_of, expressions_from, links_from, arms_from}
use Rattle.cy_trees.proofs.TreeModelsLemmas.{case_otherwise}
use Rattle.cy_scope_kinds.specs.declared.functions.Function.{Function}
use Rattle.cy_planner_algebra.specs.declared.operators.Attribute.{Attribute}
use Rattle.cy_scope_kinds.specs.internal.ExpressionTrees.{otherwise_of}
use Rattle.cy_planner_rows.specs.internal.Lowered.{all_in, lowered, lowered_arm, lowered_arms, lowered_call, lowered_expressions, lowered_link, lowered_links, lowered_otherwise, lowered_single, missing_arms, unless_null}
use Rattle.cy_planner_rows.proofs.CaseTrees.{case_is}

pub lowered_list : (place : ℕ → Attribute → ℕ) (es : List Expression) → expressions_from (map (lowered place) es) ≡ lowered_expressions place (expressions_from es)
lowered_list place [] = refl
lowered_list place (e ∷ es) = ap (more (lowered place e)) (lowered_list place es)

pub lowered_links_list : (place : ℕ → Attribute → ℕ) (ls : List (Comparator × Expression)) → links_from (map (lowered_link place) ls) ≡ lowered_links place (links_from ls)
lowered_links_list place [] = refl
lowered_links_list place (l ∷ ls) = ap (link l.0 (lowered place l.1)) (lowered_links_list place ls)

pub lowered_arms_list : (place : ℕ → Attribute → ℕ) (arms : List (Expression × Expression)) → arms_from (map (lowered_arm place) arms) ≡ lowered_arms place (arms_from arms)
lowered_arms_list place [] = refl
lowered_arms_list place (a ∷ arms) = ap (arm (lowered place a.0) (lowered place a.1)) (lowered_arms_list place arms)

-- what values of the code stand for, where search doesn't find it
pub boolean_is : (b : Bool) → expression_of (Boolean b) ≡ boolean b
boolean_is b = search (rules, the_lemmas)

null_is : expression_of Null ≡ null
null_is = search (rules, the_lemmas)

pub call_is : (name : List ℕ) (distinct : Bool) (es : Vec Expr Global) → expression_of (Call name distinct es) ≡ call name distinct (expressions_from (map expression_of es.items))
call_is name distinct es = search (rules, the_lemmas)

arm_is : (condition outcome : Expr) → arm_of (roll-Arm (record { condition = condition; outcome = outcome })) ≡ (expression_of condition, expression_of outcome)
arm_is condition outcome = search (rules, the_lemmas)

pub null_arm : (condition : Expr) (tested : Expression) → expression_of condition ≡ unary IsNull tested
    → arm_of (roll-Arm (record { condition = condition; outcome = Null })) ≡ (unary IsNull tested, null)
null_arm condition tested is = arm_is condition Null ∙ (λ i. (is i, null_is i))

-- the tests of labels
missing_list : (labels : Expression) (asked : List Name)
    → arms_from (map (λ label. (unary Not (binary In (text label) labels), boolean false)) asked) ≡ missing_arms labels asked
missing_list labels [] = refl
missing_list labels (l ∷ asked) = ap (arm (unary Not (binary In (text l) labels)) (boolean false)) (missing_list labels asked)

by_case : (labels : Expression) (asked : List Name) → (length asked ≡ 1 → ⊥)
    → all_in labels asked ≡ case (arm (unary IsNull labels) null (missing_arms labels asked)) (otherwise (boolean true))
by_case labels [] several = refl
by_case labels (l ∷ []) several = absurd (several refl)
by_case labels (l ∷ m ∷ asked) several = refl

pub all_in_by_arms : (labels : Expression) (asked : List Name) (arms : Vec Arm Global) (e : Box Expr Global) → (length asked ≡ 1 → ⊥)
    → map arm_of arms.items ≡ (unary IsNull labels, null) ∷ map (λ label. (unary Not (binary In (text label) labels), boolean false)) asked
    → expression_of e.value ≡ boolean true → expression_of (Case arms (Some e)) ≡ all_in labels asked
all_in_by_arms labels asked arms e several made given =
    case_otherwise arms e
    ∙ (λ i. case (arms_from (made i)) (otherwise (given i)))
    ∙ ap (λ (a : Arms). case (arm (unary IsNull labels) null a) (otherwise (boolean true))) (missing_list labels asked)
    ∙ sym (by_case labels asked several)

pub all_in_one : (labels : Expression) (asked : List Name) (l : Name) → asked ≡ l ∷ [] → all_in labels asked ≡ binary In (text l) labels
all_in_one labels asked l is = ap (all_in labels) is

-- CASE
pub case_lowered : (place : ℕ → Attribute → ℕ) (arms twins : Vec Arm Global) (e f : Option (Box Expr Global))
    → arms_from (map arm_of twins.items) ≡ lowered_arms place (arms_from (map arm_of arms.items)) → otherwise_of f ≡ lowered_otherwise place (otherwise_of e)
    → expression_of (Case twins f) ≡ lowered place (expression_of (Case arms e))
case_lowered place arms twins e f same_arms same =
    case_is twins f
    ∙ (λ i. case (same_arms i) (same i))
    ∙ sym (ap (lowered place) (case_is arms e))

-- a call with one argument, and with another number of them
pub one_argument : (place : ℕ → Attribute → ℕ) (f : Option Function) (arguments : List Expr) (d : Expr) (asked : Expression) → length arguments ≡ 1
    → lowered_call place f (expressions_from (map expression_of arguments)) asked ≡ lowered_single place f (expression_of (get_or arguments 0 d)) asked
one_argument place f [] d asked is = absurd (omega (arith, is))
one_argument place f (e ∷ []) d asked is = refl
one_argument place f (e ∷ g ∷ es) d asked is = absurd (omega (arith, is))

pub other_arguments : (place : ℕ → Attribute → ℕ) (f : Option Function) (arguments : List Expr) (asked : Expression) → (length arguments ≡ 1 → ⊥)
    → lowered_call place f (expressions_from (map expression_of arguments)) asked ≡ asked
other_arguments place f [] asked several = refl
other_arguments place f (e ∷ []) asked several = absurd (several refl)
other_arguments place f (e ∷ g ∷ es) asked several = refl

pub guarded_case : (arms : Vec Arm Global) (e : Box Expr Global) (tested given : Expression) → map arm_of arms.items ≡ (unary IsNull tested, null) ∷ []
    → expression_of e.value ≡ given → expression_of (Case arms (Some e)) ≡ unless_null tested given
guarded_case arms e tested given made is = case_otherwise arms e ∙ (λ i. case (arms_from (made i)) (otherwise (is i)))

pub single_call : (place : ℕ → Attribute → ℕ) (f g : Option Function) (arguments : List Expr) (d : Expr) (given asked : Expression) → length arguments ≡ 1 → g ≡ f
    → d ≡ get_or arguments 0 d → given ≡ asked
    → lowered_single place g (expression_of d) given ≡ lowered_call place f (expressions_from (map expression_of arguments)) asked
single_call place f g arguments d given asked one is at same =
    (λ i. lowered_single place (is i) (expression_of (at i)) (same i)) ∙ sym (one_argument place f arguments d asked one)
