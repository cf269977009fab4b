-- Which operators take memory for two values.
use Rattle.std.specs.Prelude.{Bool, true, false}
use Rattle.cy_trees.specs.declared.expressions.BinaryOperator.{BinaryOperator}
use Rattle.cy_trees.specs.declared.expressions.BinaryOperator.TheVariants.{Add}
use Rattle.cy_values.specs.declared.scalars.Value.{Value}
use Rattle.cy_values.specs.declared.scalars.Value.TheVariants as value

-- whether `+` joins: two texts or two lists
abbrev pub joins : Value → Value → Bool
joins (value.Text s) (value.Text t) = true
joins (value.List xs) (value.List ys) = true
joins x y = false

-- whether an operator makes a text or a list of two values, for which alone it takes memory
abbrev pub makes : BinaryOperator → Value → Value → Bool
makes Add x y = joins x y
makes operator x y = false
