-- Lists: how they are made, whether they hold a value, and sizes. (openCypher 9, Lists, List operators, size; faults own)
use Rattle.std.specs.Prelude.{List, [], ◌∷◌, length, pos, Result, Ok, Err}
use Rattle.std.specs.Str.{chars}
use Rattle.cy_values.specs.declared.scalars.Scalar.{Scalar}
use Rattle.cy_values.specs.declared.scalars.Scalar.TheVariants as scalar
use Rattle.cy_values.specs.declared.scalars.Value.{Value}
use Rattle.cy_values.specs.declared.scalars.Value.TheVariants as value
use Rattle.cy_values.specs.declared.truth.Truth.{Truth}
use Rattle.cy_values.specs.declared.truth.Truth.TheVariants.{No}
use Rattle.cy_values.specs.declared.rows.Cell.{Cell}
use Rattle.cy_values.specs.declared.rows.Cell.TheVariants as cell
use Rattle.cy_values.specs.Truth.{one_at_least}
use Rattle.cy_values.specs.Compare.{value_in, equality}
use Rattle.cy_expr.specs.declared.faults.EvalFault.{EvalFault}
use Rattle.cy_expr.specs.declared.faults.EvalFault.TheVariants.{WrongType, NestedList}
use Rattle.cy_expr.specs.Faults.{on_one, on_two}
use Rattle.cy_expr.specs.Logic.{value_of}

-- a value as an element of a list; a list is none
abbrev pub element : Value → Result Scalar EvalFault
element (value.Text t) = Ok (scalar.Text t)
element (value.Bool b) = Ok (scalar.Bool b)
element (value.Int n) = Ok (scalar.Int n)
element value.Null = Ok scalar.Null
element (value.List es) = Err NestedList

-- the elements that are these values
abbrev pub elements : List Value → Result (List Scalar) EvalFault
elements [] = Ok []
elements (v ∷ vs) = on_two (λ e es. Ok (e ∷ es)) (element v) (elements vs)

-- `[..]`: the list of these values
abbrev pub list_of : List Value → Result Value EvalFault
list_of vs = on_one (λ es. Ok (value.List es)) (elements vs)

-- whether x equals an element: the OR of `x = e` over the elements
abbrev pub equals_one : Value → List Scalar → Truth
equals_one x [] = No
equals_one x (e ∷ es) = one_at_least (equality x (value_in e)) (equals_one x es)

-- `IN`
abbrev pub membership : Value → Value → Result Value EvalFault
membership x (value.List es) = Ok (value_of (equals_one x es))
membership x value.Null = Ok value.Null
membership x (value.Text t) = Err WrongType
membership x (value.Bool b) = Err WrongType
membership x (value.Int n) = Err WrongType

-- size: of a text in characters, of a list in elements
abbrev pub size : Value → Result Value EvalFault
size (value.Text t) = Ok (value.Int (pos (length (chars t))))
size (value.List es) = Ok (value.Int (pos (length es)))
size value.Null = Ok value.Null
size (value.Bool b) = Err WrongType
size (value.Int n) = Err WrongType

-- size of what a variable of variable length stands for: the number of its relationships; of another cell as above
abbrev pub cell_size : Cell → Result Value EvalFault
cell_size (cell.Rels rs) = Ok (value.Int (pos (length rs)))
cell_size (cell.Value v) = size v
cell_size (cell.Node n) = Err WrongType
cell_size (cell.Rel r) = Err WrongType
