-- What comparisons answer. (single values of one type: openCypher 9, Comparison operators; lists and different types: own)
use Rattle.std.specs.Prelude.{Bool, false, ◌==◌, ◌||◌, if◌then◌else◌}
use Rattle.cy_values.specs.declared.scalars.Value.{Value}
use Rattle.cy_values.specs.declared.truth.Truth.{Truth}
use Rattle.cy_values.specs.declared.truth.Truth.TheVariants.{No, Unknown}
use Rattle.cy_values.specs.declared.rows.Cell.{Cell}
use Rattle.cy_values.specs.declared.rows.Cell.TheVariants as cell
use Rattle.cy_values.specs.Truth.{one_at_least, opposite, known}
use Rattle.cy_values.specs.Order.{value_kind}
use Rattle.cy_values.specs.Compare.{is_null, equality, less}

-- a cell that is null; so is an entity that isn't there
abbrev pub is_null_cell : Cell → Bool
is_null_cell (cell.Value v) = is_null v
is_null_cell c = false

-- `=`: entities by number, null with a null entity; values by their own `=`
abbrev pub cell_equality : Cell → Cell → Truth
cell_equality (cell.Node m) (cell.Node n) = known (m.0 == n.0)
cell_equality (cell.Rel m) (cell.Rel n) = known (m.0 == n.0)
cell_equality (cell.Value v) (cell.Value w) = equality v w
cell_equality c d = if is_null_cell c || is_null_cell d then Unknown else No

-- `<>` is the NOT of `=`
abbrev pub cell_inequality : Cell → Cell → Truth
cell_inequality c d = opposite (cell_equality c d)

-- `<=` is the OR of `<` and `=` where both have the same type, else null
abbrev pub less_or_equal : Value → Value → Truth
less_or_equal x y = if value_kind x == value_kind y then one_at_least (less x y) (equality x y) else Unknown

-- `>` and `>=` are `<` and `<=` turned round
abbrev pub greater : Value → Value → Truth
greater x y = less y x

abbrev pub greater_or_equal : Value → Value → Truth
greater_or_equal x y = less_or_equal y x
