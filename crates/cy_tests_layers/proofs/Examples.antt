-- Worked examples, computed from the definitions. Each is named by the operator or the rule that it shows.
use Rattle.std.proofs.Common.{◌≡◌, [], ◌∷◌, refl}
use Rattle.std.specs.Prelude.{ℕ, true, false, pos, negsuc, codes, Ok, Err}
use Rattle.cy_values.specs.declared.scalars.Scalar.{Scalar}
use Rattle.cy_values.specs.declared.scalars.Scalar.TheVariants as scalar
use Rattle.cy_values.specs.declared.scalars.Value.{Value}
use Rattle.cy_values.specs.declared.scalars.Value.TheVariants as value
use Rattle.cy_values.specs.declared.truth.Truth.TheVariants.{No, Unknown, Yes}
use Rattle.cy_values.specs.Truth.{both}
use Rattle.cy_values.specs.Compare.{equality, less}
use Rattle.cy_expr.specs.declared.faults.EvalFault.TheVariants.{NotBoolean, WrongType, Overflow, DivisionByZero, NestedList}
use Rattle.cy_expr.specs.Faults.{on_two}
use Rattle.cy_expr.specs.Logic.{conjunction, disjunction, negation}
use Rattle.cy_expr.specs.Comparison.{less_or_equal, greater_or_equal}
use Rattle.cy_expr.specs.Predicates.{text_starts, text_ends, text_contains}
use Rattle.cy_expr.specs.Arithmetic.{least, greatest, sum, quotient, remainder, negated}
use Rattle.cy_expr.specs.Lists.{list_of, membership}
use Rattle.cy_expr.specs.Choice.{coalesce, choice}
use Rattle.cy_expr.specs.Lookups.{names_rise}

-- the integers n and -(n + 1), and lists of elements
abbrev int : ℕ → Value
int n = value.Int (pos n)

abbrev below : ℕ → Value
below n = value.Int (negsuc n)

abbrev e : ℕ → Scalar
e n = scalar.Int (pos n)

abbrev null : Scalar
null = scalar.Null

abbrev one_of : Scalar → Value
one_of x = value.List (x ∷ [])

abbrev two_of : Scalar → Scalar → Value
two_of x y = value.List (x ∷ y ∷ [])

-- `null = null`
null_equals_null : equality value.Null value.Null ≡ Unknown
null_equals_null = refl

-- `null OR true`
true_or_null : disjunction value.Null (value.Bool true) ≡ Ok (value.Bool true)
true_or_null = refl

-- `1 = 'a'`
types_differ : equality (int 1) (value.Text (codes "a")) ≡ No
types_differ = refl

-- `1 < 'a'`
types_have_no_order : less (int 1) (value.Text (codes "a")) ≡ Unknown
types_have_no_order = refl

-- `[1, null] = [1, 2]`
list_with_null : equality (two_of (e 1) null) (two_of (e 1) (e 2)) ≡ Unknown
list_with_null = refl

-- `[1, null] = [2, null]`
list_with_a_difference : equality (two_of (e 1) null) (two_of (e 2) null) ≡ No
list_with_a_difference = refl

-- `[1] = [1, 2]`
lists_of_two_lengths : equality (one_of (e 1)) (two_of (e 1) (e 2)) ≡ No
lists_of_two_lengths = refl

-- `[1, 0] >= [1]`
longer_list : greater_or_equal (two_of (e 1) (e 0)) (one_of (e 1)) ≡ Yes
longer_list = refl

-- `[1, 2] < [1, null]`
list_below_null : less (two_of (e 1) (e 2)) (two_of (e 1) null) ≡ Unknown
list_below_null = refl

-- `[1, 2] <= [3, null]`
list_below : less_or_equal (two_of (e 1) (e 2)) (two_of (e 3) null) ≡ Yes
list_below = refl

-- `1 < 2 < 3`
chain : both (less (int 1) (int 2)) (less (int 2) (int 3)) ≡ Yes
chain = refl

-- `null IN []`
null_in_nothing : membership value.Null (value.List []) ≡ Ok (value.Bool false)
null_in_nothing = refl

-- `1 IN [2, null]`
in_with_null : membership (int 1) (two_of (e 2) null) ≡ Ok value.Null
in_with_null = refl

-- `1 IN 'abc'`
in_text : membership (int 1) (value.Text (codes "abc")) ≡ Err WrongType
in_text = refl

-- `'ab' + 'c'`
joined_texts : sum (value.Text (codes "ab")) (value.Text (codes "c")) ≡ Ok (value.Text (codes "abc"))
joined_texts = refl

-- `[1] + [2]`
joined_lists : sum (one_of (e 1)) (one_of (e 2)) ≡ Ok (two_of (e 1) (e 2))
joined_lists = refl

-- `1 + null`
sum_with_null : sum (int 1) value.Null ≡ Ok value.Null
sum_with_null = refl

-- `1 + 'a'`
sum_with_a_text : sum (int 1) (value.Text (codes "a")) ≡ Err WrongType
sum_with_a_text = refl

-- `9223372036854775807 + 1`
sum_too_great : sum (value.Int greatest) (int 1) ≡ Err Overflow
sum_too_great = refl

-- `-7 / 2`
truncated : quotient (below 6) (int 2) ≡ Ok (below 2)
truncated = refl

-- `-7 % 2`
sign_of_the_left : remainder (below 6) (int 2) ≡ Ok (below 0)
sign_of_the_left = refl

-- `-9223372036854775808 / -1` and `% -1`
quotient_too_great : quotient (value.Int least) (below 0) ≡ Err Overflow
quotient_too_great = refl

remainder_of_the_least : remainder (value.Int least) (below 0) ≡ Ok (int 0)
remainder_of_the_least = refl

-- `-(-9223372036854775808)`
least_negated : negated (value.Int least) ≡ Err Overflow
least_negated = refl

-- `1 / 0 + (1 AND 1)`
left_fault_first : on_two sum (quotient (int 1) (int 0)) (conjunction (int 1) (int 1)) ≡ Err DivisionByZero
left_fault_first = refl

-- `1 AND 1 / 0`
operand_before_operator : on_two conjunction (Ok (int 1)) (quotient (int 1) (int 0)) ≡ Err DivisionByZero
operand_before_operator = refl

-- `false AND 1 / 0`
both_operands_evaluated : on_two conjunction (Ok (value.Bool false)) (quotient (int 1) (int 0)) ≡ Err DivisionByZero
both_operands_evaluated = refl

-- `1 AND 1`
no_booleans : conjunction (int 1) (int 1) ≡ Err NotBoolean
no_booleans = refl

-- `[[1]]`
nested : list_of (one_of (e 1) ∷ []) ≡ Err NestedList
nested = refl

-- `CASE WHEN null THEN 1 / 0 ELSE 2 END`
unneeded_result : choice ((Ok value.Null, quotient (int 1) (int 0)) ∷ []) (Ok (int 2)) ≡ Ok (int 2)
unneeded_result = refl

-- `coalesce(null, 3, 1 / 0)`
unneeded_argument : coalesce (Ok value.Null ∷ Ok (int 3) ∷ quotient (int 1) (int 0) ∷ []) ≡ Ok (int 3)
unneeded_argument = refl

-- `NOT true`
not_true : negation (value.Bool true) ≡ Ok (value.Bool false)
not_true = refl

-- `'abc' STARTS WITH 'ab'`, `ENDS WITH 'bc'`, `CONTAINS 'b'`, `CONTAINS 'd'`, `STARTS WITH null`
starts : text_starts (value.Text (codes "abc")) (value.Text (codes "ab")) ≡ Yes
starts = refl

ends : text_ends (value.Text (codes "abc")) (value.Text (codes "bc")) ≡ Yes
ends = refl

contains : text_contains (value.Text (codes "abc")) (value.Text (codes "b")) ≡ Yes
contains = refl

contains_not : text_contains (value.Text (codes "abc")) (value.Text (codes "d")) ≡ No
contains_not = refl

starts_with_null : text_starts (value.Text (codes "abc")) value.Null ≡ Unknown
starts_with_null = refl

-- names by rising bytes, each once
names_that_rise : names_rise (codes "A" ∷ codes "AB" ∷ codes "B" ∷ []) ≡ true
names_that_rise = refl

name_that_stands_twice : names_rise (codes "A" ∷ codes "A" ∷ []) ≡ false
name_that_stands_twice = refl

names_that_fall : names_rise (codes "A" ∷ codes "C" ∷ codes "B" ∷ []) ≡ false
names_that_fall = refl
