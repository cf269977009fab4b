-- The expressions of plans. They read the columns of a row alone, so they have the same value on every graph: the rules of the
-- language's own expressions, on a graph that answers nothing. (openCypher 9, Expressions; that a plan asks the graph only by its
-- operators: own)
use Rattle.std.specs.Prelude.{ℕ, Bool, false, [], List, ◌∷◌, None, flat_map, map, Result, Ok, Err, slice_index_or}
use Rattle.cy_values.specs.declared.numbers.RelId.{RelId}
use Rattle.cy_values.specs.declared.scalars.Value.TheVariants as value
use Rattle.cy_values.specs.declared.truth.Truth.{Truth}
use Rattle.cy_values.specs.declared.rows.Cell.{Cell}
use Rattle.cy_values.specs.declared.rows.Cell.TheVariants as cell
use Rattle.cy_values.specs.Truth.{is_yes}
use Rattle.cy_trees.specs.Trees.{Expression}
use Rattle.cy_expr.specs.declared.faults.EvalFault.{EvalFault}
use Rattle.cy_expr.specs.Evaluation as language
use Rattle.cy_expr.specs.Faults.{on_one}
use Rattle.cy_expr.specs.Logic.{truth_of}
use Rattle.cy_expr.specs.Lookups.{Lookups}
use Rattle.cy_expr.specs.Operators.{value_in_cell}
use Rattle.cy_planner_algebra.specs.Plans.{Output, computed, gathered}

-- a graph that answers nothing: no property, no label and an empty type
abbrev pub no_graph : Lookups
no_graph = record { property_of = λ entity key. None; labels_of = λ node. []; type_of = λ rel. [] }

abbrev pub null : Cell
null = cell.Value value.Null

-- the cell in a column; null where the row has no such column
abbrev pub cell_at : List Cell → ℕ → Cell
cell_at row column = slice_index_or row column null

-- the cell of an expression on a row, or its fault
abbrev pub cell_of : List Cell → Expression → Result Cell EvalFault
cell_of row e = language.cell_of no_graph row e

-- the truth of an expression on a row, or its fault
abbrev pub truth_on : List Cell → Expression → Result Truth EvalFault
truth_on row e = on_one truth_of (on_one value_in_cell (cell_of row e))

-- it is true; neither null nor a fault is
abbrev pub is_true : Result Truth EvalFault → Bool
is_true (Ok truth) = is_yes truth
is_true (Err fault) = false

abbrev pub holds : Expression → List Cell → Bool
holds e row = is_true (truth_on row e)

-- a cell; null in place of a fault, which an expression of a sure plan hasn't (own)
abbrev pub cell_or_null : Result Cell EvalFault → Cell
cell_or_null (Ok c) = c
cell_or_null (Err fault) = null

-- the relationships that a cell names
abbrev pub relationships_in : Cell → List RelId
relationships_in (cell.Rel rel) = rel ∷ []
relationships_in (cell.Rels rels) = rels
relationships_in (cell.Node node) = []
relationships_in (cell.Value v) = []

-- those of several columns, one after another
abbrev pub relationships_at : List ℕ → List Cell → List RelId
relationships_at columns row = flat_map (λ column. relationships_in (cell_at row column)) columns

-- what stands in a column that a projection makes
abbrev pub output_cell : List Cell → Output → Cell
output_cell row (computed e) = cell_or_null (cell_of row e)
output_cell row (gathered columns) = cell.Rels (relationships_at columns row)

abbrev pub projected : List Output → List Cell → List Cell
projected outputs row = map (output_cell row) outputs
