-- Arithmetic on values. (openCypher 9, Mathematical operators; faults own) Sums, products and quotients are exact whole
-- numbers, which are then tested for 64 bits.
use Rattle.std.specs.Prelude.{Bool, ◌==◌, ◌||◌, ◌&&◌, ◌++◌, if◌then◌else◌, ℤ, pos, negsuc, ◌+ℤ◌, ◌-ℤ◌, ◌*ℤ◌, neg_ℤ, int_le, int_div, int_rem, unsigned_abs, Result, Ok, Err}
use Rattle.cy_values.specs.declared.scalars.Value.{Value}
use Rattle.cy_values.specs.declared.scalars.Value.TheVariants as value
use Rattle.cy_values.specs.Compare.{is_null}
use Rattle.cy_expr.specs.declared.faults.EvalFault.{EvalFault}
use Rattle.cy_expr.specs.declared.faults.EvalFault.TheVariants.{WrongType, Overflow, DivisionByZero}

-- the least and the greatest integer: -9223372036854775808 and 9223372036854775807
abbrev pub least : ℤ
least = negsuc 9223372036854775807

abbrev pub greatest : ℤ
greatest = pos 9223372036854775807

-- a whole number as a value, where 64 bits hold it
abbrev pub integer : ℤ → Result Value EvalFault
integer n = if int_le least n && int_le n greatest then Ok (value.Int n) else Err Overflow

-- operands that the operator has no other equation for: null where one of them is null, else a wrong type
abbrev pub other_operand : Value → Result Value EvalFault
other_operand x = if is_null x then Ok value.Null else Err WrongType

abbrev pub other_operands : Value → Value → Result Value EvalFault
other_operands x y = if is_null x || is_null y then Ok value.Null else Err WrongType

-- an operator on integers alone
abbrev pub on_integers : (ℤ → ℤ → Result Value EvalFault) → Value → Value → Result Value EvalFault
on_integers f (value.Int m) (value.Int n) = f m n
on_integers f x y = other_operands x y

-- `+`: of integers the sum, texts and lists are joined
abbrev pub sum : Value → Value → Result Value EvalFault
sum (value.Int m) (value.Int n) = integer (m +ℤ n)
sum (value.Text s) (value.Text t) = Ok (value.Text (s ++ t))
sum (value.List xs) (value.List ys) = Ok (value.List (xs ++ ys))
sum x y = other_operands x y

-- `-` and `*`
abbrev pub difference : Value → Value → Result Value EvalFault
difference = on_integers (λ m n. integer (m -ℤ n))

abbrev pub product : Value → Value → Result Value EvalFault
product = on_integers (λ m n. integer (m *ℤ n))

-- `/` truncates towards zero, `%` has the left operand's sign; neither divides by zero
abbrev pub is_zero : ℤ → Bool
is_zero n = unsigned_abs n == 0

abbrev pub quotient : Value → Value → Result Value EvalFault
quotient = on_integers (λ m n. if is_zero n then Err DivisionByZero else integer (int_div m n))

abbrev pub remainder : Value → Value → Result Value EvalFault
remainder = on_integers (λ m n. if is_zero n then Err DivisionByZero else integer (int_rem m n))

-- the signs `-` and `+`
abbrev pub negated : Value → Result Value EvalFault
negated (value.Int n) = integer (neg_ℤ n)
negated x = other_operand x

abbrev pub unchanged : Value → Result Value EvalFault
unchanged (value.Int n) = Ok (value.Int n)
unchanged x = other_operand x

-- abs: how far from zero
abbrev pub absolute : Value → Result Value EvalFault
absolute (value.Int n) = integer (pos (unsigned_abs n))
absolute x = other_operand x
