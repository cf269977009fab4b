-- IN with a list that is written out, by the values of its elements.
use Rattle.std.specs.Prelude.{List, [], ◌∷◌, Result, Ok, Err}
use Rattle.cy_values.specs.declared.scalars.Value.{Value}
use Rattle.cy_values.specs.declared.truth.Truth.{Truth}
use Rattle.cy_values.specs.Truth.{one_at_least}
use Rattle.cy_values.specs.Compare.{value_in, equality}
use Rattle.cy_expr.specs.declared.faults.EvalFault.{EvalFault}
use Rattle.cy_expr.specs.Faults.{on_one}
use Rattle.cy_expr.specs.Lists.{element}
use Rattle.cy_expr.specs.Logic.{value_of}

-- whether x equals one of the elements so far or this one
abbrev pub equals_also : Result Truth EvalFault → Value → Value → Result Truth EvalFault
equals_also any x v = on_one (λ a. on_one (λ e. Ok (one_at_least a (equality x (value_in e)))) (element v)) any

abbrev pub equals_more : Result Truth EvalFault → Value → List Value → Result Truth EvalFault
equals_more any x [] = any
equals_more any x (v ∷ vs) = equals_more (equals_also any x v) x vs

-- what IN gives, by the elements so far and the values of those that are left
abbrev pub membership_from : Result Truth EvalFault → Value → Result (List Value) EvalFault → Result Value EvalFault
membership_from any x (Ok vs) = on_one (λ a. Ok (value_of a)) (equals_more any x vs)
membership_from any x (Err fault) = Err fault
