-- How far the clauses of a query have been read.
use Rattle.std.specs.Prelude.{◌≡◌, ◌∷◌, false, List, length, IsTrue}
use Rattle.std.specs.List.{AllByRecursion, list_any}
use Rattle.cy_values.specs.declared.rows.Cell.{Cell}
use Rattle.cy_trees.specs.Trees.{Name, Clause, Query}
use Rattle.cy_graph.specs.Graph.{Content}
use Rattle.cy_scope.specs.Views.{ends_with_return, is_update}
use Rattle.cy_oneshot_patterns.specs.Outcomes.{IsSameOutcome}
use Rattle.cy_oneshot_meaning.specs.Queries.{columns_after_all, query_columns, query_rows, rows_after_all}
use Rattle.cy_oneshot_meaning.specs.Reading.{AreInGraph}

-- the table so far, and what the clauses that are left make of it
pub record IsReached (graph : Content) (query : Query) (columns : List Name) (rows : List (List Cell)) (clauses : List Clause) : Type 0 where
  pub names : columns_after_all columns clauses ≡ query_columns query
  pub bag : IsSameOutcome (rows_after_all graph clauses rows) (query_rows graph query)
  pub ordered : IsTrue (ends_with_return query.clauses) → rows_after_all graph clauses rows ≡ query_rows graph query
  pub ends : IsTrue (ends_with_return query.clauses) → (c : Clause) (cs : List Clause) → clauses ≡ c ∷ cs → IsTrue (ends_with_return clauses)
  pub reading : list_any is_update clauses ≡ false
  pub wide : AllByRecursion (λ row. length row ≡ length columns) rows
  pub there : AreInGraph graph rows
