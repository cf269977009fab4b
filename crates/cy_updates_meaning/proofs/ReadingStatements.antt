-- A statement without an updating clause.
use Rattle.std.proofs.Common.{◌≡◌, Bool, true, false, cond, ◌||◌, List, [], ◌∷◌, ◌++◌, refl, ap, ◌∙◌}
use Rattle.std.specs.Prelude.{Result, Ok, Err}
use Rattle.std.specs.List.{list_all, list_any}
use Rattle.std.proofs.lemmas.Bool.{and_parts, or_parts}
use Rattle.cy_values.specs.declared.rows.Cell.{Cell}
use Rattle.cy_trees.specs.Trees.{Name, Clause, Query, Statement}
use Rattle.cy_scope.specs.Views.{ends_with_return, is_update}
use Rattle.cy_graph.specs.Graph.{Content, State}
use Rattle.cy_expr.specs.declared.faults.EvalFault.{EvalFault}
use Rattle.cy_expr.specs.Faults.{on_one}
use Rattle.cy_oneshot_meaning.specs.Queries.{put_together, query_columns, query_rows, rows_after, rows_after_all, rows_of_all, statement_columns}
use Rattle.cy_updates_meaning.specs.declared.faults.UpdateFault.{UpdateFault}
use Rattle.cy_updates_meaning.specs.Counts.{no_counts}
use Rattle.cy_updates_meaning.specs.Faults.{◌>>=◌, each_in_turn, evaluated}
use Rattle.cy_updates_meaning.specs.Readings.{reading_outcome, rows_outcome, tables_of_all}
use Rattle.cy_updates_meaning.specs.Statements.{Outcome, Progress, after_clause, after_query, after_reading, after_updating, beginning, columns_of, outcome_of, statement_outcome, table_of}

-- progress with other rows
abbrev with_rows : Progress → Result (List (List Cell)) EvalFault → Result Progress UpdateFault
with_rows so_far r = evaluated r >>= λ rows. Ok (record { graph = so_far.graph; rows = rows; counts = so_far.counts })

-- ---- clauses

module _ (clauses : List Clause) (each : (so_far : Progress) → each_in_turn after_clause clauses so_far ≡ with_rows so_far (rows_after_all so_far.graph.content clauses so_far.rows)) (so_far : Progress) where
  then_all : (r : Result (List (List Cell)) EvalFault)
      → (with_rows so_far r >>= λ next. each_in_turn after_clause clauses next) ≡ with_rows so_far (on_one (rows_after_all so_far.graph.content clauses) r)
  then_all (Ok rows) = each (record { graph = so_far.graph; rows = rows; counts = so_far.counts })
  then_all (Err fault) = refl

all_read : (clauses : List Clause) → list_any is_update clauses ≡ false → (so_far : Progress)
    → each_in_turn after_clause clauses so_far ≡ with_rows so_far (rows_after_all so_far.graph.content clauses so_far.rows)
all_read [] none so_far = refl
all_read (clause ∷ clauses) none so_far =
    let parts = or_parts (is_update clause) (list_any is_update clauses) none in
    ap (λ b. cond b (after_updating clause so_far) (after_reading clause so_far) >>= λ next. each_in_turn after_clause clauses next) parts.0
    ∙ then_all clauses (all_read clauses parts.1) so_far (rows_after so_far.graph.content clause so_far.rows)

-- ---- queries

-- a query with an updating clause
abbrev updates : Query → Bool
updates query = list_any is_update query.clauses

-- the table of a query after other rows
abbrev after_rows : Query → List (List Cell) → Result (List (List Cell)) EvalFault → Result (List (List Cell)) EvalFault
after_rows query rows r = on_one (λ made. Ok (rows ++ table_of query made)) r

-- what a query makes of what its clauses come to, after other rows
abbrev with_table : Query → List (List Cell) → Result Progress UpdateFault → Result Progress UpdateFault
with_table query rows r = r >>= λ done. Ok (record done { rows = rows ++ table_of query done.rows })

-- the others go on
abbrev others_on : List Query → Result Progress UpdateFault → Result Progress UpdateFault
others_on queries r = r >>= λ next. each_in_turn after_query queries next

table_read : (query : Query) (so_far : Progress) (r : Result (List (List Cell)) EvalFault)
    → with_table query so_far.rows (with_rows (record so_far { rows = [] ∷ [] }) r) ≡ with_rows so_far (after_rows query so_far.rows r)
table_read query so_far (Ok made) = refl
table_read query so_far (Err fault) = refl

query_read : (query : Query) → updates query ≡ false → (so_far : Progress)
    → after_query query so_far ≡ with_rows so_far (after_rows query so_far.rows (query_rows so_far.graph.content query))
query_read query none so_far =
    ap (with_table query so_far.rows) (all_read query.clauses none (record so_far { rows = [] ∷ [] })) ∙ table_read query so_far (query_rows so_far.graph.content query)

module _ (queries : List Query) (each : (so_far : Progress) → each_in_turn after_query queries so_far ≡ with_rows so_far (tables_of_all so_far.graph.content queries so_far.rows)) (query : Query) (so_far : Progress) where
  then_others : (r : Result (List (List Cell)) EvalFault) → others_on queries (with_rows so_far (after_rows query so_far.rows r))
      ≡ with_rows so_far (on_one (λ made. tables_of_all so_far.graph.content queries (so_far.rows ++ table_of query made)) r)
  then_others (Ok made) = each (record so_far { rows = so_far.rows ++ table_of query made })
  then_others (Err fault) = refl

queries_read : (queries : List Query) → list_any updates queries ≡ false → (so_far : Progress)
    → each_in_turn after_query queries so_far ≡ with_rows so_far (tables_of_all so_far.graph.content queries so_far.rows)
queries_read [] none so_far = refl
queries_read (query ∷ queries) none so_far =
    let parts = or_parts (updates query) (list_any updates queries) none in
    ap (others_on queries) (query_read query parts.0 so_far) ∙ then_others queries (queries_read queries parts.1) query so_far (query_rows so_far.graph.content query)

-- a query that ends with RETURN
abbrev returns : Query → Bool
returns query = ends_with_return query.clauses

module _ (graph : Content) (queries : List Query) (same : (rows : List (List Cell)) → tables_of_all graph queries rows ≡ rows_of_all graph queries rows) (query : Query) (here : returns query ≡ true)
    (rows : List (List Cell)) where
  then_rows : (r : Result (List (List Cell)) EvalFault) → on_one (λ made. tables_of_all graph queries (rows ++ table_of query made)) r ≡ on_one (λ more. rows_of_all graph queries (rows ++ more)) r
  then_rows (Ok made) = ap (λ b. tables_of_all graph queries (rows ++ cond b made [])) here ∙ same (rows ++ made)
  then_rows (Err fault) = refl

-- where each query ends with RETURN its table is its rows
tables_same : (graph : Content) (queries : List Query) → list_all returns queries ≡ true → (rows : List (List Cell)) → tables_of_all graph queries rows ≡ rows_of_all graph queries rows
tables_same graph [] ends rows = refl
tables_same graph (query ∷ queries) ends rows =
    let parts = and_parts (returns query) (list_all returns queries) ends in
    then_rows graph queries (tables_same graph queries parts.1) query parts.0 rows (query_rows graph query)

columns_same : (queries : List Query) (all : Bool) → list_all returns queries ≡ true → columns_of queries ≡ statement_columns (record { queries = queries; all = all })
columns_same [] all ends = refl
columns_same (query ∷ queries) all ends =
    ap (λ b. cond b (query_columns query) []) (and_parts (returns query) (list_all returns queries) ends).0

-- ---- statements

module _ (graph : State) (statement : Statement) where
  abbrev answer : Result (List (List Cell)) EvalFault → Result Outcome UpdateFault
  answer r = evaluated r >>= λ rows. Ok (outcome_of statement (record (beginning graph) { rows = rows }))

  then_outcome : (r : Result (List (List Cell)) EvalFault) → (with_rows (beginning graph) r >>= λ done. Ok (outcome_of statement done)) ≡ answer r
  then_outcome (Ok rows) = refl
  then_outcome (Err fault) = refl

  pub only_read : list_any (λ q. list_any is_update q.clauses) statement.queries ≡ false → statement_outcome graph statement ≡ reading_outcome graph statement
  only_read none =
      ap (λ r. r >>= λ done. Ok (outcome_of statement done)) (queries_read statement.queries none (beginning graph))
      ∙ then_outcome (tables_of_all graph.content statement.queries [])

  pub rows_read : list_all (λ q. ends_with_return q.clauses) statement.queries ≡ true → reading_outcome graph statement ≡ rows_outcome graph statement
  rows_read ends = ap answer (tables_same graph.content statement.queries ends []) ∙ by (rows_of_all graph.content statement.queries [])
    where
      columns : columns_of statement.queries ≡ statement_columns statement
      columns = columns_same statement.queries statement.all ends

      by : (r : Result (List (List Cell)) EvalFault)
          → answer r ≡ (evaluated (on_one (λ rows. Ok (put_together statement.all statement.queries rows)) r) >>= λ rows.
          Ok (record { graph = graph; counts = no_counts; columns = statement_columns statement; rows = rows }))
      by (Ok rows) = ap (λ (names : List Name). Ok (record { graph = graph; counts = no_counts; columns = names; rows = put_together statement.all statement.queries rows })) columns
      by (Err fault) = refl
