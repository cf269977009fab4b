-- CASE and coalesce, which evaluate only what they need: what isn't needed may fault. (openCypher 9, CASE, coalesce)
use Rattle.std.specs.Prelude.{if◌then◌else◌, List, [], ◌∷◌, Result, Ok}
use Rattle.cy_values.specs.declared.scalars.Value.{Value}
use Rattle.cy_values.specs.declared.scalars.Value.TheVariants as value
use Rattle.cy_values.specs.Truth.{is_yes}
use Rattle.cy_values.specs.Compare.{is_null}
use Rattle.cy_expr.specs.declared.faults.EvalFault.{EvalFault}
use Rattle.cy_expr.specs.Faults.{on_one}
use Rattle.cy_expr.specs.Logic.{truth_of}

-- coalesce: of what its arguments answer, the first value that isn't null, else null
abbrev pub coalesce : List (Result Value EvalFault) → Result Value EvalFault
coalesce [] = Ok value.Null
coalesce (first ∷ others) = on_one (λ v. if is_null v then coalesce others else Ok v) first

-- CASE: of what its conditions and its results answer, the result of the first condition that is true, else that of ELSE
abbrev pub choice : List (Result Value EvalFault × Result Value EvalFault) → Result Value EvalFault → Result Value EvalFault
choice [] otherwise = otherwise
choice (arm ∷ arms) otherwise =
    on_one (λ condition. if is_yes condition then arm.1 else choice arms otherwise) (on_one truth_of arm.0)
