-- The meaning of reading clauses, each from a table to a table or the smallest code, and of a query, their composition.
-- (Francis et al., clauses and queries; openCypher 9, Reading clauses)
use Rattle.std.specs.Prelude.{Bool, true, false, List, [], ◌∷◌, ◌++◌, length, map, Option, None, Some, Result, Ok, if◌then◌else◌}
use Rattle.cy_values.specs.declared.rows.Cell.{Cell}
use Rattle.cy_trees.specs.declared.expressions.Variable.{Variable}
use Rattle.cy_trees.specs.Trees.{Name, Clause, «match», unwind, «with», «return», create, Query, Statement}
use Rattle.cy_graph.specs.Graph.{Content}
use Rattle.cy_expr.specs.declared.faults.EvalFault.{EvalFault}
use Rattle.cy_expr.specs.Faults.{on_one}
use Rattle.cy_oneshot_patterns.specs.Fits.{is_new}
use Rattle.cy_oneshot_patterns.specs.Matching.{matched_where, optionally_matched, unwound, kept}
use Rattle.cy_oneshot_patterns.specs.Outcomes.{joined}
use Rattle.cy_oneshot_patterns.specs.Places.{Place, places, variable_at}
use Rattle.cy_values.specs.Order.{row_cmp}
use Rattle.cy_oneshot_meaning.specs.Order.{each_once, in_order}
use Rattle.cy_oneshot_meaning.specs.Projection.{projection_rows}

-- The rows after a reading clause, or its fault. They are a bag, but for those after RETURN, which stand in their order. What an
-- updating clause means is no matter of this, and no law speaks of one here.
abbrev pub rows_after : Content → Clause → List (List Cell) → Result (List (List Cell)) EvalFault
rows_after graph («match» false paths w) rows = joined (map (matched_where graph paths w) rows)
rows_after graph («match» true paths w) rows = joined (map (optionally_matched graph paths w) rows)
rows_after graph (unwind e v) rows = joined (map (unwound graph e) rows)
rows_after graph («with» p w) rows = on_one (λ made. joined (map (kept graph w) made)) (projection_rows graph p rows)
rows_after graph («return» p) rows = projection_rows graph p rows
rows_after graph clause rows = Ok rows

-- the rows after several clauses, one after another: the first that faults decides
abbrev pub rows_after_all : Content → List Clause → List (List Cell) → Result (List (List Cell)) EvalFault
rows_after_all graph [] rows = Ok rows
rows_after_all graph (clause ∷ clauses) rows = on_one (rows_after_all graph clauses) (rows_after graph clause rows)

-- the rows of a query in their order: it begins with the empty row, once
abbrev pub query_rows : Content → Query → Result (List (List Cell)) EvalFault
query_rows graph query = rows_after_all graph query.clauses ([] ∷ [])

-- the rows of queries, one after another, after other rows: the first that faults decides
abbrev pub rows_of_all : Content → List Query → List (List Cell) → Result (List (List Cell)) EvalFault
rows_of_all graph [] rows = Ok rows
rows_of_all graph (query ∷ queries) rows = on_one (λ more. rows_of_all graph queries (rows ++ more)) (query_rows graph query)

-- what UNION makes of the rows of several queries: all of them with ALL, else each once; in canonical order
abbrev pub united : Bool → List (List Cell) → List (List Cell)
united all rows = in_order row_cmp (if all then rows else each_once row_cmp rows)

-- the rows of one query stand as they are
abbrev pub put_together : Bool → List Query → List (List Cell) → List (List Cell)
put_together all (query ∷ []) rows = rows
put_together all queries rows = united all rows

-- the rows of a statement that only reads, in their order (openCypher 9, UNION; the order own)
abbrev pub statement_rows : Content → Statement → Result (List (List Cell)) EvalFault
statement_rows graph s = on_one (λ rows. Ok (put_together s.all s.queries rows)) (rows_of_all graph s.queries [])

-- the name of a variable, if there is one
abbrev pub name_of : Option Variable → List Name
name_of None = []
name_of (Some v) = v.name ∷ []

-- the names of the columns, with those of new variables after them in the order of the text
abbrev pub with_new_names : List Name → List Place → List Name
with_new_names columns [] = columns
with_new_names columns (place ∷ others) =
    with_new_names (if is_new (length columns) place then columns ++ name_of (variable_at place) else columns) others

-- the columns after a clause; WITH and RETURN give those of their items
abbrev pub columns_after : List Name → Clause → List Name
columns_after columns («match» optional paths test) = with_new_names columns (places paths)
columns_after columns (unwind e v) = columns ++ v.name ∷ []
columns_after columns («with» p test) = map (λ i. i.column) p.items
columns_after columns («return» p) = map (λ i. i.column) p.items
columns_after columns (create paths) = with_new_names columns (places paths)
columns_after columns clause = columns

-- the columns of a query
abbrev pub columns_after_all : List Name → List Clause → List Name
columns_after_all columns [] = columns
columns_after_all columns (clause ∷ clauses) = columns_after_all (columns_after columns clause) clauses

abbrev pub query_columns : Query → List Name
query_columns query = columns_after_all [] query.clauses

abbrev columns_of_first : List Query → List Name
columns_of_first [] = []
columns_of_first (query ∷ queries) = query_columns query

-- the columns of a statement, which are those of its first query: the others have the same
abbrev pub statement_columns : Statement → List Name
statement_columns s = columns_of_first s.queries
