-- The meaning of updating clauses, each from a graph and a table to a graph and a table, or the first fault, and of a statement,
-- the composition of its clauses. (Francis et al.; openCypher 9; canonical order and faults: own)
use Rattle.std.specs.Prelude.{List, [], ◌∷◌, ◌++◌, fold, if◌then◌else◌, Result, Ok}
use Rattle.cy_values.specs.declared.rows.Cell.{Cell}
use Rattle.cy_values.specs.Order.{row_cmp}
use Rattle.cy_trees.specs.Trees.{Name, SetItem, RemoveItem, Path, Clause, create, set, remove, delete, Query, Statement}
use Rattle.cy_scope.specs.Views.{is_update, ends_with_return}
use Rattle.cy_graph.specs.Graph.{State}
use Rattle.cy_oneshot_meaning.specs.Order.{in_order}
use Rattle.cy_oneshot_meaning.specs.Queries.{rows_after, query_columns, put_together}
use Rattle.cy_updates_meaning.specs.declared.faults.UpdateFault.{UpdateFault}
use Rattle.cy_updates_meaning.specs.Faults.{◌>>=◌, evaluated, each_in_turn}
use Rattle.cy_updates_meaning.specs.Creating.{created}
use Rattle.cy_updates_meaning.specs.Setting.{set_item, removed_item}
use Rattle.cy_updates_meaning.specs.Deleting.{deleted}
use Rattle.cy_updates_meaning.specs.Counts.{Counts, no_counts, counts_between, plus}

-- a graph with its next numbers, and a table
pub record GraphTable : Type 0 where
  pub graph : State
  pub rows : List (List Cell)

-- CREATE on a row, which gets a column for each new variable
abbrev pub create_row : List Path → List Cell → GraphTable → Result GraphTable UpdateFault
create_row paths row so_far =
    created so_far.graph paths row >>= λ made. Ok (record { graph = made.graph; rows = so_far.rows ++ made.row ∷ [] })

-- SET and REMOVE on a row: items from left to right, each on the graph as it stands
abbrev pub set_row : List SetItem → List Cell → State → Result State UpdateFault
set_row items row graph = each_in_turn (set_item row) items graph

abbrev pub remove_row : List RemoveItem → State → List Cell → State
remove_row items graph row = fold (removed_item row) graph items

-- An updating clause takes the rows one after another, but DELETE all of them at once. Nothing follows DELETE, and so it leaves no
-- table.
abbrev pub rows_taken : State → Clause → List (List Cell) → Result GraphTable UpdateFault
rows_taken graph (create paths) rows = each_in_turn (create_row paths) rows (record { graph = graph; rows = [] })
rows_taken graph (set items) rows = each_in_turn (set_row items) rows graph >>= λ after. Ok (record { graph = after; rows = rows })
rows_taken graph (remove items) rows = Ok (record { graph = fold (remove_row items) graph rows; rows = rows })
rows_taken graph (delete detach variables) rows = deleted graph detach variables rows >>= λ after. Ok (record { graph = after; rows = [] })
rows_taken graph clause rows = Ok (record { graph = graph; rows = rows })

-- The graph and the table after an updating clause, or its first fault: the rows are taken in canonical order, each as often as it
-- counts. A reading clause updates nothing.
abbrev pub updated : State → Clause → List (List Cell) → Result GraphTable UpdateFault
updated graph clause rows = rows_taken graph clause (in_order row_cmp rows)

-- how far a statement has come: the graph, the table, and what was made and removed on the way
pub record Progress : Type 0 where
  pub graph : State
  pub rows : List (List Cell)
  pub counts : Counts

-- a reading clause leaves the graph, and gives another table or its fault
abbrev pub after_reading : Clause → Progress → Result Progress UpdateFault
after_reading clause so_far = evaluated (rows_after so_far.graph.content clause so_far.rows) >>= λ rows. Ok (record so_far { rows = rows })

-- an updating clause also counts what it makes and removes
abbrev pub after_updating : Clause → Progress → Result Progress UpdateFault
after_updating clause so_far =
    updated so_far.graph clause so_far.rows >>= λ after.
    Ok (record { graph = after.graph; rows = after.rows; counts = plus so_far.counts (counts_between so_far.graph.content after.graph.content) })

abbrev pub after_clause : Clause → Progress → Result Progress UpdateFault
after_clause clause so_far = if is_update clause then after_updating clause so_far else after_reading clause so_far

-- what a statement leaves and answers
pub record Outcome : Type 0 where
  pub graph : State
  pub counts : Counts
  pub columns : List Name
  pub rows : List (List Cell)

-- the table of a query is that of RETURN; without RETURN there is none
abbrev pub table_of : Query → List (List Cell) → List (List Cell)
table_of query rows = if ends_with_return query.clauses then rows else []

-- A query after others begins with the empty row, once, on the graph that they leave; its table comes after theirs.
abbrev pub after_query : Query → Progress → Result Progress UpdateFault
after_query query so_far =
    each_in_turn after_clause query.clauses (record so_far { rows = [] ∷ [] }) >>= λ done.
    Ok (record done { rows = so_far.rows ++ table_of query done.rows })

-- the columns of a statement's table are those of its first query
abbrev pub columns_of : List Query → List Name
columns_of [] = []
columns_of (query ∷ queries) = if ends_with_return query.clauses then query_columns query else []

abbrev pub outcome_of : Statement → Progress → Outcome
outcome_of statement done = record {
  graph = done.graph;
  counts = done.counts;
  columns = columns_of statement.queries;
  rows = put_together statement.all statement.queries done.rows;
}

-- nothing is done yet
abbrev pub beginning : State → Progress
beginning graph = record { graph = graph; rows = []; counts = no_counts }

-- the meaning of a statement: its queries one after another, and the clauses of each; the first that faults decides
abbrev pub statement_outcome : State → Statement → Result Outcome UpdateFault
statement_outcome graph statement = each_in_turn after_query statement.queries (beginning graph) >>= λ done. Ok (outcome_of statement done)
