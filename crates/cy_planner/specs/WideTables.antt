-- The wide tables of a statement: for each clause of its queries the table that it would give without its own WHERE and DISTINCT, and the rows of
-- all queries together. (own) No operator of a plan that serves the statement has a row that counts more than some row of them.
use Rattle.std.specs.Prelude.{false, List, [], ◌∷◌, ◌++◌, flat_map, None, Result, Ok, Err}
use Rattle.cy_values.specs.declared.rows.Cell.{Cell}
use Rattle.cy_trees.specs.Trees.{Where, Clause, «match», «with», «return», Query, Statement}
use Rattle.cy_graph.specs.Graph.{Content}
use Rattle.cy_expr.specs.declared.faults.EvalFault.{EvalFault}
use Rattle.cy_oneshot_meaning.specs.Queries.{rows_after, rows_of_all}

abbrev pub no_where : Where
no_where = record { test = None; paths = [] }

-- the clause without its own WHERE and DISTINCT
abbrev pub unselected : Clause → Clause
unselected («match» optional paths w) = «match» optional paths no_where
unselected («with» p w) = «with» (record p { distinct = false }) no_where
unselected («return» p) = «return» (record p { distinct = false })
unselected clause = clause

-- the rows of an outcome; of a fault none, which the query of a view hasn't
abbrev pub rows_or_none : Result (List (List Cell)) EvalFault → List (List Cell)
rows_or_none (Ok rows) = rows
rows_or_none (Err fault) = []

-- of each clause, after the rows that the clauses before it give
abbrev pub tables_after : Content → List Clause → List (List Cell) → List (List (List Cell))
tables_after graph [] rows = []
tables_after graph (clause ∷ clauses) rows =
    rows_or_none (rows_after graph (unselected clause) rows) ∷ tables_after graph clauses (rows_or_none (rows_after graph clause rows))

-- of a query, which begins with the empty row, once
abbrev pub query_tables : Content → Query → List (List (List Cell))
query_tables graph query = tables_after graph query.clauses ([] ∷ [])

abbrev pub wide_tables : Content → Statement → List (List (List Cell))
wide_tables graph s = flat_map (query_tables graph) s.queries ++ rows_or_none (rows_of_all graph s.queries []) ∷ []
