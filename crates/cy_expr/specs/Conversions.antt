-- toString. (openCypher 9, String functions; the fault: own)
use Rattle.std.specs.Prelude.{true, false, codes, Result, Ok, Err}
use Rattle.std.specs.Fmt.{signed_decimal}
use Rattle.cy_values.specs.declared.scalars.Value.{Value}
use Rattle.cy_values.specs.declared.scalars.Value.TheVariants as value
use Rattle.cy_expr.specs.declared.faults.EvalFault.{EvalFault}
use Rattle.cy_expr.specs.declared.faults.EvalFault.TheVariants.{WrongType}

-- toString: an integer in decimal, `true` or `false`, a text itself
abbrev pub as_text : Value → Result Value EvalFault
as_text (value.Int n) = Ok (value.Text (signed_decimal n))
as_text (value.Bool true) = Ok (value.Text (codes "true"))
as_text (value.Bool false) = Ok (value.Text (codes "false"))
as_text (value.Text t) = Ok (value.Text t)
as_text value.Null = Ok value.Null
as_text (value.List es) = Err WrongType
