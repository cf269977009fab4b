-- The numbers of the faults (own), and the two rules of what operands answer together.
use Rattle.std.specs.Prelude.{ℕ, Result, Ok, Err}
use Rattle.cy_expr.specs.declared.faults.EvalFault.{EvalFault}
use Rattle.cy_expr.specs.declared.faults.EvalFault.TheVariants.{NotBoolean, WrongType, Overflow, DivisionByZero, NestedList, NoMemory}

abbrev pub code_of : EvalFault → ℕ
code_of NotBoolean = 40
code_of WrongType = 41
code_of Overflow = 42
code_of DivisionByZero = 43
code_of NestedList = 44
code_of NoMemory = 90

-- what f answers on an operand; the operand's fault comes before its operator's own
abbrev pub on_one : {A B : Type 0} → (A → Result B EvalFault) → Result A EvalFault → Result B EvalFault
on_one f (Ok a) = f a
on_one f (Err fault) = Err fault

-- what f answers on two operands; both are evaluated, and of two faults the left one counts
abbrev pub on_two : {A B C : Type 0} → (A → B → Result C EvalFault) → Result A EvalFault → Result B EvalFault → Result C EvalFault
on_two f (Ok a) (Ok b) = f a b
on_two f (Ok a) (Err fault) = Err fault
on_two f (Err fault) second = Err fault
