-- What the code holds while it executes a CREATE on a row.
use Rattle.std.specs.Prelude.{ℕ, List, ◌++◌, Option, IsSome, IfSome, Result, Ok}
use Rattle.std.specs.List.{AllByRecursion}
use Rattle.std.specs.Option.{option_and_then}
use Rattle.cy_values.specs.declared.numbers.NodeId.{NodeId}
use Rattle.cy_values.specs.declared.rows.Cell.{Cell}
use Rattle.cy_trees.specs.declared.expressions.Variable.{Variable}
use Rattle.cy_trees.specs.Trees.{Path}
use Rattle.cy_graph.specs.Graph.{State, node_at}
use Rattle.cy_oneshot_meaning.specs.Reading.{IsInGraph}
use Rattle.cy_updates.specs.declared.writes.creating.Made.{Made}
use Rattle.cy_updates_meaning.specs.declared.faults.UpdateFault.{UpdateFault}
use Rattle.cy_updates_meaning.specs.Creating.{Creation, created}
use Rattle.cy_updates_meaning.specs.Faults.{◌>>=◌}

-- the row before the clause, with the cells of the new variables
abbrev pub row_so_far : List Cell → Made → List Cell
row_so_far before made = before ++ made.cells.items

-- how far the clause has come
abbrev pub creation : State → List Cell → Made → Creation
creation graph before made = record { graph = graph; row = row_so_far before made; last = made.last }

-- what the row names, and the node at the place before, are in the graph
pub record IsCreation (so_far : Creation) : Type 0 where
  pub row : AllByRecursion (IsInGraph so_far.graph.content) so_far.row
  pub last : IfSome so_far.last (λ (id : NodeId). IsSome (node_at id so_far.graph))

-- the column of a variable, if there is one
abbrev pub variable_column : Option Variable → Option ℕ
variable_column v = option_and_then (λ w. w.column) v

-- a graph and a row
abbrev pub graph_row : State → List Cell → State × List Cell
graph_row graph row = (graph, row)

-- those after CREATE on a row
abbrev pub row_created : State → List Path → List Cell → Result (State × List Cell) UpdateFault
row_created graph paths row = created graph paths row >>= λ made. Ok (graph_row made.graph made.row)
