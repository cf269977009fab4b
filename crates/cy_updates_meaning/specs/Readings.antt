-- Statements that only read, for laws. (openCypher 9, Reading clauses and UNION)
use Rattle.std.specs.Prelude.{List, [], ◌∷◌, ◌++◌, Result, Ok}
use Rattle.cy_values.specs.declared.rows.Cell.{Cell}
use Rattle.cy_trees.specs.Trees.{Query, Statement}
use Rattle.cy_graph.specs.Graph.{Content, State}
use Rattle.cy_expr.specs.declared.faults.EvalFault.{EvalFault}
use Rattle.cy_expr.specs.Faults.{on_one}
use Rattle.cy_oneshot_meaning.specs.Queries.{query_rows, statement_columns, statement_rows}
use Rattle.cy_updates_meaning.specs.declared.faults.UpdateFault.{UpdateFault}
use Rattle.cy_updates_meaning.specs.Counts.{no_counts}
use Rattle.cy_updates_meaning.specs.Faults.{◌>>=◌, evaluated}
use Rattle.cy_updates_meaning.specs.Statements.{Outcome, beginning, outcome_of, table_of}

-- the tables of queries that only read, one after another, after other rows
abbrev pub tables_of_all : Content → List Query → List (List Cell) → Result (List (List Cell)) EvalFault
tables_of_all graph [] rows = Ok rows
tables_of_all graph (query ∷ queries) rows = on_one (λ made. tables_of_all graph queries (rows ++ table_of query made)) (query_rows graph query)

-- a statement that only reads: it leaves the graph, and makes and removes nothing
abbrev pub reading_outcome : State → Statement → Result Outcome UpdateFault
reading_outcome graph statement =
    evaluated (tables_of_all graph.content statement.queries []) >>= λ rows. Ok (outcome_of statement (record (beginning graph) { rows = rows }))

-- what it answers where each query ends with RETURN: the rows of the statement, under its columns
abbrev pub rows_outcome : State → Statement → Result Outcome UpdateFault
rows_outcome graph statement =
    evaluated (statement_rows graph.content statement) >>= λ rows.
    Ok (record { graph = graph; counts = no_counts; columns = statement_columns statement; rows = rows })
