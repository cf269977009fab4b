-- What the plan of a clause has to be. (own)
use Rattle.std.specs.Prelude.{◌≡◌, List, length, Ok, IsOk, IfOk, IsTrue}
use Rattle.std.specs.List.{All, AllByRecursion, Contains}
use Rattle.cy_values.specs.declared.rows.Cell.{Cell}
use Rattle.cy_trees.specs.Trees.{Clause}
use Rattle.cy_scope_kinds.specs.Rows.{row_fits}
use Rattle.cy_scope_kinds.specs.Scopes.{Scope}
use Rattle.cy_graph.specs.Graph.{State, IsGraph}
use Rattle.cy_oneshot_patterns.specs.Outcomes.{IsSameOutcome}
use Rattle.cy_oneshot_meaning.specs.Queries.{rows_after}
use Rattle.cy_planner_algebra.specs.Plans.{Plan, width}
use Rattle.cy_planner_algebra.specs.Parts.{parts}
use Rattle.cy_planner_algebra.specs.Meaning.{rows_of}
use Rattle.cy_planner_algebra.specs.Sure.{IsSure}
use Rattle.cy_planner_algebra.specs.Within.{IsWithin}
use Rattle.cy_scope.specs.ClauseScopes.{scope_after}
use Rattle.cy_planner.specs.WideTables.{unselected}
use Rattle.cy_planner.specs.internal.ViewClauses.{HasScope, IsViewClause}

abbrev pub Fits : Scope → List Cell → Type 0
Fits scope row = IsTrue (row_fits scope row)

-- over a plan whose rows fit a scope: where the clause has no fault its rows are those of the clause, and fit another scope; and no operator
-- counts a row more often than the operators below, or than the clause's wide table, do
pub record IsClausePlan (c : Clause) (scope after : Scope) (below p : Plan) : Type 0 where
  pub long : length after ≡ width p
  pub rows : (graph : State) → IsGraph graph → AllByRecursion (Fits scope) (rows_of graph.content below) → IsOk (rows_after graph.content c (rows_of graph.content below))
      → IsSameOutcome (Ok (rows_of graph.content p)) (rows_after graph.content c (rows_of graph.content below))
  pub fits : (graph : State) → IsGraph graph → AllByRecursion (Fits scope) (rows_of graph.content below) → IfOk (rows_after graph.content c (rows_of graph.content below)) (AllByRecursion (Fits after))
  pub sure : ((graph : State) → IsGraph graph → AllByRecursion (Fits scope) (rows_of graph.content below)) → ((graph : State) → IsGraph graph → IsOk (rows_after graph.content c (rows_of graph.content below)))
      → IsSure below → IsSure p
  pub wide_ok : (graph : State) → IsGraph graph → IsOk (rows_after graph.content c (rows_of graph.content below)) → IsOk (rows_after graph.content (unselected c) (rows_of graph.content below))
  pub bounded : (graph : State) (tables : List (List (List Cell))) (table : List (List Cell)) → IsGraph graph → AllByRecursion (Fits scope) (rows_of graph.content below)
      → IsOk (rows_after graph.content c (rows_of graph.content below)) → Contains tables table → IsSameOutcome (Ok table) (rows_after graph.content (unselected c) (rows_of graph.content below))
      → All (IsWithin graph.content tables) (parts below) → All (IsWithin graph.content tables) (parts p)

-- a clause of a view's query, in some scope that the rows of a plan fit, on which it has no fault
abbrev pub CanBePlanned : Clause → Plan → Type 0
CanBePlanned c below =
    (scope : Scope) × IsViewClause scope c × HasScope scope below × ((graph : State) → IsGraph graph → IsOk (rows_after graph.content c (rows_of graph.content below)))

-- in each such scope it is the plan of the clause
abbrev pub IsPlanned : Clause → Plan → Plan → Type 0
IsPlanned c below p = (scope : Scope) → IsViewClause scope c → HasScope scope below → IsClausePlan c scope (scope_after scope c) below p
