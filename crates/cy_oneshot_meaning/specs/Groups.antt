-- Groups of rows, and aggregates over them. (openCypher 9, Aggregating functions; faults and canonical order own)
use Rattle.std.specs.Prelude.{ℤ, pos, Bool, not, ◌+ℤ◌, List, [], ◌∷◌, ◌++◌, length, map, filter, Option, None, Some, Result, Ok, Err, if◌then◌else◌}
use Rattle.std.specs.Ordering.{eq_by_cmp}
use Rattle.cy_values.specs.declared.scalars.Value.{Value}
use Rattle.cy_values.specs.declared.scalars.Value.TheVariants as value
use Rattle.cy_values.specs.declared.rows.Cell.{Cell}
use Rattle.cy_values.specs.Order.{cell_order, row_cmp}
use Rattle.cy_trees.specs.Trees.{Expression, no_more, more, call, call_star, Item}
use Rattle.cy_graph.specs.Graph.{Content}
use Rattle.cy_scope_kinds.specs.declared.functions.Function.{Function}
use Rattle.cy_scope_kinds.specs.declared.functions.Function.TheVariants.{Count, Sum, Min, Max, Collect}
use Rattle.cy_scope_kinds.specs.Aggregates.{is_aggregate_call}
use Rattle.cy_scope_kinds.specs.Functions.{function_named}
use Rattle.cy_expr.specs.declared.faults.EvalFault.{EvalFault}
use Rattle.cy_expr.specs.declared.faults.EvalFault.TheVariants.{WrongType}
use Rattle.cy_expr.specs.Arithmetic.{integer}
use Rattle.cy_expr.specs.Comparison.{is_null_cell}
use Rattle.cy_expr.specs.Evaluation.{as_cell, cell_of}
use Rattle.cy_expr.specs.Faults.{on_one}
use Rattle.cy_expr.specs.Lists.{list_of}
use Rattle.cy_expr.specs.Operators.{value_in_cell}
use Rattle.cy_oneshot_meaning.specs.Order.{in_order, each_once}
use Rattle.cy_oneshot_patterns.specs.Outcomes.{and_also, gathered}
use Rattle.cy_expr.specs.Graphs.{lookups}

abbrev pub without_nulls : List Cell → List Cell
without_nulls cells = filter (λ c. not (is_null_cell c)) cells

-- what an aggregate takes of its arguments: no null, with DISTINCT each value once, in canonical order
abbrev pub taken : Bool → List Cell → List Cell
taken distinct cells = in_order cell_order (if distinct then each_once cell_order (without_nulls cells) else without_nulls cells)

-- the exact total of integers
abbrev pub total : List Value → Result ℤ EvalFault
total [] = Ok (pos 0)
total (value.Int n ∷ vs) = on_one (λ m. Ok (n +ℤ m)) (total vs)
total (v ∷ vs) = Err WrongType

abbrev pub first_or_null : List Value → Value
first_or_null [] = value.Null
first_or_null (v ∷ vs) = v

abbrev pub last_or_null : List Value → Value
last_or_null [] = value.Null
last_or_null (v ∷ []) = v
last_or_null (v ∷ w ∷ vs) = last_or_null (w ∷ vs)

abbrev pub values_in : List Cell → Result (List Value) EvalFault
values_in cells = gathered (map value_in_cell cells)

-- What an aggregate gives for what it takes. Only a total may pass 64 bits, not the sums on the way to it. No checked item
-- calls another function here: a wrong type stands for these (own).
abbrev pub aggregate : Function → List Cell → Result Value EvalFault
aggregate Count cells = Ok (value.Int (pos (length cells)))
aggregate Sum cells = on_one integer (on_one total (values_in cells))
aggregate Min cells = on_one (λ values. Ok (first_or_null values)) (values_in cells)
aggregate Max cells = on_one (λ values. Ok (last_or_null values)) (values_in cells)
aggregate Collect cells = on_one list_of (values_in cells)
aggregate f cells = Err WrongType

abbrev pub aggregate_if : Option Function → List Cell → Result Value EvalFault
aggregate_if None cells = Err WrongType
aggregate_if (Some f) cells = aggregate f cells

-- an aggregate over the rows of a group: a fault among its arguments comes before its own, and `*` counts the rows
abbrev pub over_rows : Content → Expression → List (List Cell) → Result Value EvalFault
over_rows graph (call f distinct (more e no_more)) rows =
    on_one (λ cells. aggregate_if (function_named f) (taken distinct cells)) (gathered (map (λ row. cell_of (lookups graph) row e) rows))
over_rows graph (call_star f) rows = Ok (value.Int (pos (length rows)))
over_rows graph e rows = Err WrongType

-- items without an aggregate are the grouping items
abbrev pub grouping : List Item → List Item
grouping items = filter (λ i. not (is_aggregate_call i.expression)) items

-- the cells of items on a row
abbrev pub cells_on : Content → List Item → List Cell → Result (List Cell) EvalFault
cells_on graph items row = gathered (map (λ i. cell_of (lookups graph) row i.expression) items)

-- the arguments of the aggregates among items
abbrev pub argument_of : Expression → List Expression
argument_of (call f distinct (more e no_more)) = e ∷ []
argument_of e = []

abbrev pub arguments : List Item → List Expression
arguments [] = []
arguments (i ∷ items) = if is_aggregate_call i.expression then argument_of i.expression ++ arguments items else arguments items

abbrev pub arguments_on : Content → List Item → List Cell → Result (List Cell) EvalFault
arguments_on graph items row = gathered (map (λ e. cell_of (lookups graph) row e) (arguments items))

-- an outcome; where it is a fault, another one is looked at too, and the smaller fault counts
abbrev pub looked_at_with : {A B : Type 0} → Result A EvalFault → Result B EvalFault → Result A EvalFault
looked_at_with (Ok x) other = Ok x
looked_at_with (Err fault) other = and_also other (Err fault)

-- The key of a row: what the grouping items give on it. Where they fault, the arguments of the aggregates are looked at too, since the
-- row is in no group, and the smallest code counts.
abbrev pub key_on : Content → List Item → List Cell → Result (List Cell) EvalFault
key_on graph items row = looked_at_with (cells_on graph (grouping items) row) (arguments_on graph items row)

-- a row with its key
pub record Grouped : Type 0 where
  pub key : List Cell
  pub row : List Cell

abbrev pub grouped : Content → List Item → List Cell → Result Grouped EvalFault
grouped graph items row = on_one (λ key. Ok (record { key = key; row = row })) (key_on graph items row)

-- the keys of the groups: each once; without grouping items there is one group, even of no rows
abbrev pub group_keys : List Item → List Grouped → List (List Cell)
group_keys [] rows = [] ∷ []
group_keys (i ∷ items) rows = each_once row_cmp (map (λ g. g.key) rows)

-- the rows of a group; in a key null is the same as null
abbrev pub rows_of_group : List Cell → List Grouped → List (List Cell)
rows_of_group key rows = map (λ g. g.row) (filter (λ g. eq_by_cmp row_cmp key g.key) rows)

-- the cells that a group makes: its key's cells for the grouping items, and the aggregates of its rows for the others
abbrev pub group_cells : Content → List Item → List Cell → List (List Cell) → List (Result Cell EvalFault)
group_cells graph [] key rows = []
group_cells graph (i ∷ items) [] rows = as_cell (over_rows graph i.expression rows) ∷ group_cells graph items [] rows
group_cells graph (i ∷ items) (c ∷ key) rows =
    if is_aggregate_call i.expression
    then as_cell (over_rows graph i.expression rows) ∷ group_cells graph items (c ∷ key) rows
    else Ok c ∷ group_cells graph items key rows

-- one row for each group
abbrev pub group_rows : Content → List Item → List Grouped → Result (List (List Cell)) EvalFault
group_rows graph items rows = gathered (map (λ key. gathered (group_cells graph items key (rows_of_group key rows))) (group_keys (grouping items) rows))

-- those that are values
abbrev pub values_among : {A : Type 0} → List (Result A EvalFault) → List A
values_among [] = []
values_among (Ok x ∷ outcomes) = x ∷ values_among outcomes
values_among (Err fault ∷ outcomes) = values_among outcomes

-- Grouping and aggregation: all rows are looked at. A row whose grouping items fault is in no group, and the smallest code counts among
-- the grouping items and the arguments of all rows and the aggregates of the groups.
abbrev pub aggregated : Content → List Item → List (List Cell) → Result (List (List Cell)) EvalFault
aggregated graph items table =
    and_also (gathered (map (grouped graph items) table)) (group_rows graph items (values_among (map (grouped graph items) table)))
