-- The value of an expression on a row and a graph: a cell or a fault, one equation for each form. (openCypher 9, Expressions;
-- faults own) Of two faults the left one counts, and an operand's fault comes before its operator's own.
use Rattle.std.specs.Prelude.{ℕ, List, [], ◌∷◌, Option, Some, None, Result, Ok, Err, slice_index_or}
use Rattle.cy_values.specs.declared.scalars.Value.{Value}
use Rattle.cy_values.specs.declared.scalars.Value.TheVariants as value
use Rattle.cy_values.specs.declared.truth.Truth.{Truth}
use Rattle.cy_values.specs.declared.truth.Truth.TheVariants.{Yes}
use Rattle.cy_values.specs.declared.rows.Cell.{Cell}
use Rattle.cy_values.specs.declared.rows.Cell.TheVariants as cell
use Rattle.cy_values.specs.Truth.{both}
use Rattle.cy_trees.specs.Trees.{Expression, null, boolean, integer, text, variable, property, has_labels, unary, binary, comparison, list, case, call, call_star, Expressions, no_more, more, Links, no_links, link, Arms, no_arms, arm, Otherwise, nothing, otherwise}
use Rattle.cy_scope_kinds.specs.declared.functions.Function.{Function}
use Rattle.cy_scope_kinds.specs.declared.functions.Function.TheVariants as function
use Rattle.cy_scope_kinds.specs.Functions.{function_named}
use Rattle.cy_expr.specs.declared.faults.EvalFault.{EvalFault}
use Rattle.cy_expr.specs.declared.faults.EvalFault.TheVariants.{WrongType}
use Rattle.cy_expr.specs.Faults.{on_one, on_two}
use Rattle.cy_expr.specs.Logic.{value_of}
use Rattle.cy_expr.specs.Arithmetic.{absolute}
use Rattle.cy_expr.specs.Lists.{list_of, cell_size}
use Rattle.cy_expr.specs.Conversions.{as_text}
use Rattle.cy_expr.specs.Choice.{coalesce, choice}
use Rattle.cy_expr.specs.Operators.{binary_value, unary_value, value_in_cell, compared}
use Rattle.cy_expr.specs.Lookups.{Lookups, property_value, existence, labels_test, labels_value, type_value, id_value}

-- the cell that a value is
abbrev pub as_cell : Result Value EvalFault → Result Cell EvalFault
as_cell (Ok v) = Ok (cell.Value v)
as_cell (Err fault) = Err fault

-- a variable is a column of the row; one without a column is null (own: a checked expression has none)
abbrev pub column_value : Option ℕ → List Cell → Cell
column_value (Some column) row = slice_index_or row column (cell.Value value.Null)
column_value None row = cell.Value value.Null

-- What a function of one argument gives. Aggregates have no value on a row, coalesce and exists have equations of their own,
-- and no checked expression calls another function or has another number of arguments: a wrong type stands for these (own).
abbrev pub function_value : Lookups → Function → Cell → Result Value EvalFault
function_value graph function.Id c = id_value c
function_value graph function.Type c = type_value graph c
function_value graph function.Labels c = labels_value graph c
function_value graph function.Size c = cell_size c
function_value graph function.Abs c = on_one absolute (value_in_cell c)
function_value graph function.ToString c = on_one as_text (value_in_cell c)
function_value graph f c = Err WrongType

abbrev pub called : Lookups → Option Function → List Cell → Result Value EvalFault
called graph (Some f) (c ∷ []) = function_value graph f c
called graph f cs = Err WrongType

-- A call, by what its arguments give, each a value or a fault, and by whether the property that it asks for is there: coalesce
-- and exists look at these, the other functions at the cells of the arguments.
abbrev pub call_value : Lookups → Option Function → Result (List Cell) EvalFault → List (Result Value EvalFault) → Result Value EvalFault → Result Value EvalFault
call_value graph (Some function.Coalesce) cells outcomes there = coalesce outcomes
call_value graph (Some function.Exists) cells outcomes there = there
call_value graph f cells outcomes there = on_one (called graph f) cells

abbrev mutual
  pub cell_of : Lookups → List Cell → Expression → Result Cell EvalFault
  cell_of graph row null = Ok (cell.Value value.Null)
  cell_of graph row (boolean b) = Ok (cell.Value (value.Bool b))
  cell_of graph row (integer n) = Ok (cell.Value (value.Int n))
  cell_of graph row (text t) = Ok (cell.Value (value.Text t))
  cell_of graph row (variable v) = Ok (column_value v.column row)
  cell_of graph row (property e key) = as_cell (on_one (property_value graph key) (cell_of graph row e))
  cell_of graph row (has_labels e labels) = as_cell (on_one (labels_test graph labels) (cell_of graph row e))
  cell_of graph row (unary operator e) = as_cell (on_one (unary_value operator) (cell_of graph row e))
  cell_of graph row (binary operator a b) = as_cell (on_two (binary_value operator) (on_one value_in_cell (cell_of graph row a)) (on_one value_in_cell (cell_of graph row b)))
  cell_of graph row (comparison e links) = as_cell (on_one (λ a. Ok (value_of a)) (on_one (λ c. chain graph row c links) (cell_of graph row e)))
  cell_of graph row (list es) = as_cell (on_one list_of (values_of graph row es))
  cell_of graph row (case arms e) = as_cell (choice (outcomes_of_arms graph row arms) (outcome_of_else graph row e))
  cell_of graph row (call name distinct es) =
      as_cell (call_value graph (function_named name) (cells_of graph row es) (outcomes_of graph row es) (property_exists graph row es))
  cell_of graph row (call_star name) = Err WrongType

  -- what each expression gives, if all have values
  pub cells_of : Lookups → List Cell → Expressions → Result (List Cell) EvalFault
  cells_of graph row no_more = Ok []
  cells_of graph row (more e es) = on_two (λ c cs. Ok (c ∷ cs)) (cell_of graph row e) (cells_of graph row es)

  pub values_of : Lookups → List Cell → Expressions → Result (List Value) EvalFault
  values_of graph row no_more = Ok []
  values_of graph row (more e es) = on_two (λ v vs. Ok (v ∷ vs)) (on_one value_in_cell (cell_of graph row e)) (values_of graph row es)

  -- a chain of comparisons after an operand: the AND of its neighbours, each operand evaluated once
  pub chain : Lookups → List Cell → Cell → Links → Result Truth EvalFault
  chain graph row c no_links = Ok Yes
  chain graph row c (link comparator e links) =
      on_one (λ d. on_two (λ a b. Ok (both a b)) (compared comparator c d) (chain graph row d links)) (cell_of graph row e)

  -- what each expression gives, a value or a fault
  pub outcomes_of : Lookups → List Cell → Expressions → List (Result Value EvalFault)
  outcomes_of graph row no_more = []
  outcomes_of graph row (more e es) = on_one value_in_cell (cell_of graph row e) ∷ outcomes_of graph row es

  pub outcomes_of_arms : Lookups → List Cell → Arms → List (Result Value EvalFault × Result Value EvalFault)
  outcomes_of_arms graph row no_arms = []
  outcomes_of_arms graph row (arm condition outcome arms) =
      (on_one value_in_cell (cell_of graph row condition), on_one value_in_cell (cell_of graph row outcome)) ∷ outcomes_of_arms graph row arms

  pub outcome_of_else : Lookups → List Cell → Otherwise → Result Value EvalFault
  outcome_of_else graph row nothing = Ok value.Null
  outcome_of_else graph row (otherwise e) = on_one value_in_cell (cell_of graph row e)

  -- exists asks for a property
  pub property_exists : Lookups → List Cell → Expressions → Result Value EvalFault
  property_exists graph row (more (property e key) no_more) = on_one (existence graph key) (cell_of graph row e)
  property_exists graph row es = Err WrongType
