-- Truth operators on values. (openCypher 9, Boolean operators; the fault: own)
use Rattle.std.specs.Prelude.{true, false, Result, Ok, Err}
use Rattle.cy_values.specs.declared.scalars.Value.{Value}
use Rattle.cy_values.specs.declared.scalars.Value.TheVariants as value
use Rattle.cy_values.specs.declared.truth.Truth.{Truth}
use Rattle.cy_values.specs.declared.truth.Truth.TheVariants.{No, Unknown, Yes}
use Rattle.cy_values.specs.Truth.{both, one_at_least, one_alone, opposite, known}
use Rattle.cy_expr.specs.declared.faults.EvalFault.{EvalFault}
use Rattle.cy_expr.specs.declared.faults.EvalFault.TheVariants.{NotBoolean}
use Rattle.cy_expr.specs.Faults.{on_one, on_two}

-- the truth that a value stands for: null is Unknown; a value that is neither boolean nor null stands for none
abbrev pub truth_of : Value → Result Truth EvalFault
truth_of (value.Bool holds) = Ok (known holds)
truth_of value.Null = Ok Unknown
truth_of (value.Int n) = Err NotBoolean
truth_of (value.Text t) = Err NotBoolean
truth_of (value.List es) = Err NotBoolean

-- the value that stands for a truth
abbrev pub value_of : Truth → Value
value_of Yes = value.Bool true
value_of No = value.Bool false
value_of Unknown = value.Null

-- `AND`, `OR` and `XOR`
abbrev pub conjunction : Value → Value → Result Value EvalFault
conjunction x y = on_two (λ a b. Ok (value_of (both a b))) (truth_of x) (truth_of y)

abbrev pub disjunction : Value → Value → Result Value EvalFault
disjunction x y = on_two (λ a b. Ok (value_of (one_at_least a b))) (truth_of x) (truth_of y)

abbrev pub exclusive_disjunction : Value → Value → Result Value EvalFault
exclusive_disjunction x y = on_two (λ a b. Ok (value_of (one_alone a b))) (truth_of x) (truth_of y)

-- `NOT`
abbrev pub negation : Value → Result Value EvalFault
negation x = on_one (λ a. Ok (value_of (opposite a))) (truth_of x)
