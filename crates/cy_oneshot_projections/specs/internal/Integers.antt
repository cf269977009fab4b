-- The integer in a cell.
use Rattle.std.specs.Prelude.{ℤ, Option, Some, None}
use Rattle.cy_values.specs.declared.scalars.Value.TheVariants as value
use Rattle.cy_values.specs.declared.rows.Cell.{Cell}
use Rattle.cy_values.specs.declared.rows.Cell.TheVariants as cell

abbrev pub integer_in : Cell → Option ℤ
integer_in (cell.Value (value.Int n)) = Some n
integer_in c = None
