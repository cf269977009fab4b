-- What CASE gives before its ELSE.
use Rattle.std.specs.Prelude.{if◌then◌else◌, List, [], ◌∷◌, Option, Some, None, Result, Ok}
use Rattle.cy_values.specs.declared.scalars.Value.{Value}
use Rattle.cy_values.specs.declared.rows.Cell.{Cell}
use Rattle.cy_values.specs.Truth.{is_yes}
use Rattle.cy_expr.specs.declared.faults.EvalFault.{EvalFault}
use Rattle.cy_expr.specs.Evaluation.{as_cell}
use Rattle.cy_expr.specs.Faults.{on_one}
use Rattle.cy_expr.specs.Logic.{truth_of}

-- the result of the first condition that is true, if one is
abbrev pub chosen : List (Result Value EvalFault × Result Value EvalFault) → Result (Option Cell) EvalFault
chosen [] = Ok None
chosen (arm ∷ arms) =
    on_one (λ condition. if is_yes condition then on_one (λ c. Ok (Some c)) (as_cell arm.1) else chosen arms) (on_one truth_of arm.0)
