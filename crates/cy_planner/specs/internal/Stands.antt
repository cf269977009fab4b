-- A plan stands for the first clauses of a query: its rows are theirs, and fit the scope after them. (own)
use Rattle.std.specs.Prelude.{◌≡◌, List, [], ◌∷◌, ◌++◌, length, Ok, IsTrue}
use Rattle.std.specs.List.{All, AllByRecursion}
use Rattle.cy_trees.specs.Trees.{Clause, Query}
use Rattle.cy_scope_kinds.specs.Rows.{row_fits}
use Rattle.cy_scope_kinds.specs.Scopes.{Scope}
use Rattle.cy_scope.specs.ClauseScopes.{query_scope, scope_after_all}
use Rattle.cy_graph.specs.Graph.{State, IsGraph}
use Rattle.cy_oneshot_patterns.specs.Outcomes.{IsSameOutcome}
use Rattle.cy_oneshot_meaning.specs.Queries.{rows_after_all}
use Rattle.cy_planner_algebra.specs.Plans.{Plan, width}
use Rattle.cy_planner_algebra.specs.Parts.{parts}
use Rattle.cy_planner_algebra.specs.Meaning.{rows_of}
use Rattle.cy_planner_algebra.specs.Sure.{IsSure}
use Rattle.cy_planner_algebra.specs.Within.{IsWithin}
use Rattle.cy_planner.specs.WideTables.{query_tables}
use Rattle.cy_planner.specs.internal.ViewClauses.{AreViewClauses}

pub record Stands (query : Query) (done : List Clause) (scope : Scope) (p : Plan) : Type 0 where
  pub long : length scope ≡ width p
  pub rows : (graph : State) → IsGraph graph → IsSameOutcome (Ok (rows_of graph.content p)) (rows_after_all graph.content done ([] ∷ []))
  pub fits : (graph : State) → IsGraph graph → AllByRecursion (λ row. IsTrue (row_fits scope row)) (rows_of graph.content p)
  pub sure : IsSure p
  pub bounded : (graph : State) → IsGraph graph → All (IsWithin graph.content (query_tables graph.content query)) (parts p)

-- a plan for the clauses of a query that are done; those that are left are clauses of a view's query, and end in its scope
abbrev pub IsUnderWay : Query → List Clause → Plan → Type 0
IsUnderWay query left p = (done : List Clause) × (scope : Scope) × (query.clauses ≡ done ++ left) × Stands query done scope p × AreViewClauses scope left × (scope_after_all scope left ≡ query_scope query)
