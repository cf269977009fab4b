-- A column of a projection that is a column of the rows below it. (own)
use Rattle.std.specs.Prelude.{ℕ, Option, None}
use Rattle.cy_trees.specs.Trees.{Expression, variable}
use Rattle.cy_planner_algebra.specs.Plans.{Output, computed, gathered}
use Rattle.cy_planner_rows.specs.Conditions.{column_variable}

abbrev pub column_output : ℕ → Output
column_output column = computed (column_variable column)

-- the column of an expression that is a column alone
abbrev pub variable_column : Expression → Option ℕ
variable_column (variable v) = v.column
variable_column e = None

-- the column that an output takes over
abbrev pub taken_column : Output → Option ℕ
taken_column (computed e) = variable_column e
taken_column (gathered columns) = None
