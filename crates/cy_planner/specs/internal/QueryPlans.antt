-- Plans of the queries of a view, and of several of them together. (own)
use Rattle.std.specs.Prelude.{◌≡◌, ◌<◌, List, [], ◌∷◌, ◌++◌, flat_map, length, Ok}
use Rattle.std.specs.List.{All, Contains}
use Rattle.cy_values.specs.declared.rows.Cell.{Cell}
use Rattle.cy_values.specs.Bag.{IsSameBag}
use Rattle.cy_trees.specs.Trees.{Query}
use Rattle.cy_scope.specs.Checked.{IsViewQuery, single}
use Rattle.cy_scope.specs.ClauseScopes.{query_scope}
use Rattle.cy_graph.specs.Graph.{Content, State, IsGraph}
use Rattle.cy_oneshot_patterns.specs.Outcomes.{IsSameOutcome}
use Rattle.cy_oneshot_meaning.specs.Queries.{query_rows, rows_of_all}
use Rattle.cy_planner_algebra.specs.Plans.{Plan, width}
use Rattle.cy_planner_algebra.specs.Parts.{parts}
use Rattle.cy_planner_algebra.specs.Meaning.{rows_of}
use Rattle.cy_planner_algebra.specs.Sure.{IsSure}
use Rattle.cy_planner_algebra.specs.WellFormed.{IsWellFormed}
use Rattle.cy_planner_algebra.specs.Within.{IsWithin}
use Rattle.cy_planner.specs.WideTables.{query_tables, rows_or_none}

-- the rows of a query, as a bag; no operator counts a row more often than the tables of the query do
pub record IsQueryPlan (query : Query) (p : Plan) : Type 0 where
  pub long : length (query_scope query) ≡ width p
  pub rows : (graph : State) → IsGraph graph → IsSameOutcome (Ok (rows_of graph.content p)) (query_rows graph.content query)
  pub sure : IsSure p
  pub well_formed : IsWellFormed p
  pub bounded : (graph : State) → IsGraph graph → All (IsWithin graph.content (query_tables graph.content query)) (parts p)

-- one query or more, each of which can be that of a view by itself, and all of which have as many columns
pub record AreViewQueries (queries : List Query) : Type 0 where
  pub some : 0 < length queries
  pub each : All (λ q. IsViewQuery (single q)) queries
  pub as_wide : (p q : Query) → Contains queries p → Contains queries q → length (query_scope p) ≡ length (query_scope q)

-- the wide tables of queries
abbrev pub tables_of_all : Content → List Query → List (List (List Cell))
tables_of_all graph queries = flat_map (query_tables graph) queries ++ rows_or_none (rows_of_all graph queries []) ∷ []

-- a plan of the rows of the first queries, to which those that are left add theirs
pub record IsPlanOfAll (queries left : List Query) (p : Plan) : Type 0 where
  pub long : (q : Query) → Contains queries q → length (query_scope q) ≡ width p
  pub rows : (graph : State) → IsGraph graph → (table : List (List Cell)) × IsSameBag (rows_of graph.content p) table × (rows_of_all graph.content left table ≡ rows_of_all graph.content queries [])
  pub sure : IsSure p
  pub bounded : (graph : State) → IsGraph graph → All (IsWithin graph.content (tables_of_all graph.content queries)) (parts p)
