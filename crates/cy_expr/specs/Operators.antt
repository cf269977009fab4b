-- What each operator gives for operands that have values. (openCypher 9, Operators)
use Rattle.std.specs.Prelude.{not, Result, Ok, Err}
use Rattle.cy_values.specs.declared.scalars.Value.{Value}
use Rattle.cy_values.specs.declared.scalars.Value.TheVariants as value
use Rattle.cy_values.specs.declared.truth.Truth.{Truth}
use Rattle.cy_values.specs.declared.rows.Cell.{Cell}
use Rattle.cy_values.specs.declared.rows.Cell.TheVariants as cell
use Rattle.cy_values.specs.Compare.{less}
use Rattle.cy_trees.specs.declared.expressions.UnaryOperator.{UnaryOperator}
use Rattle.cy_trees.specs.declared.expressions.UnaryOperator.TheVariants.{Not, Plus, Minus, IsNull, IsNotNull}
use Rattle.cy_trees.specs.declared.expressions.BinaryOperator.{BinaryOperator}
use Rattle.cy_trees.specs.declared.expressions.BinaryOperator.TheVariants.{Or, Xor, And, In, Contains, StartsWith, EndsWith, Add, Subtract, Multiply, Divide, Remainder}
use Rattle.cy_trees.specs.declared.expressions.Comparator.{Comparator}
use Rattle.cy_trees.specs.declared.expressions.Comparator.TheVariants.{Equal, NotEqual, Less, LessOrEqual, Greater, GreaterOrEqual}
use Rattle.cy_expr.specs.declared.faults.EvalFault.{EvalFault}
use Rattle.cy_expr.specs.declared.faults.EvalFault.TheVariants.{WrongType}
use Rattle.cy_expr.specs.Faults.{on_one, on_two}
use Rattle.cy_expr.specs.Logic.{value_of, conjunction, disjunction, exclusive_disjunction, negation}
use Rattle.cy_expr.specs.Comparison.{is_null_cell, cell_equality, cell_inequality, less_or_equal, greater, greater_or_equal}
use Rattle.cy_expr.specs.Predicates.{text_starts, text_ends, text_contains}
use Rattle.cy_expr.specs.Arithmetic.{sum, difference, product, quotient, remainder, negated, unchanged}
use Rattle.cy_expr.specs.Lists.{membership}

-- an operator with two values
abbrev pub binary_value : BinaryOperator → Value → Value → Result Value EvalFault
binary_value Or x y = disjunction x y
binary_value Xor x y = exclusive_disjunction x y
binary_value And x y = conjunction x y
binary_value In x y = membership x y
binary_value Contains x y = Ok (value_of (text_contains x y))
binary_value StartsWith x y = Ok (value_of (text_starts x y))
binary_value EndsWith x y = Ok (value_of (text_ends x y))
binary_value Add x y = sum x y
binary_value Subtract x y = difference x y
binary_value Multiply x y = product x y
binary_value Divide x y = quotient x y
binary_value Remainder x y = remainder x y

-- the value in a cell; an entity and a list of relationships are no values
abbrev pub value_in_cell : Cell → Result Value EvalFault
value_in_cell (cell.Value v) = Ok v
value_in_cell (cell.Node n) = Err WrongType
value_in_cell (cell.Rel r) = Err WrongType
value_in_cell (cell.Rels rs) = Err WrongType

-- an operator with one operand: IS NULL asks any cell, the others a value
abbrev pub unary_value : UnaryOperator → Cell → Result Value EvalFault
unary_value Not c = on_one negation (value_in_cell c)
unary_value Plus c = on_one unchanged (value_in_cell c)
unary_value Minus c = on_one negated (value_in_cell c)
unary_value IsNull c = Ok (value.Bool (is_null_cell c))
unary_value IsNotNull c = Ok (value.Bool (not (is_null_cell c)))

-- a comparison of two neighbours in a chain: `=` and `<>` compare any two cells, the others two values
abbrev pub compared : Comparator → Cell → Cell → Result Truth EvalFault
compared Equal c d = Ok (cell_equality c d)
compared NotEqual c d = Ok (cell_inequality c d)
compared Less c d = on_two (λ x y. Ok (less x y)) (value_in_cell c) (value_in_cell d)
compared LessOrEqual c d = on_two (λ x y. Ok (less_or_equal x y)) (value_in_cell c) (value_in_cell d)
compared Greater c d = on_two (λ x y. Ok (greater x y)) (value_in_cell c) (value_in_cell d)
compared GreaterOrEqual c d = on_two (λ x y. Ok (greater_or_equal x y)) (value_in_cell c) (value_in_cell d)
