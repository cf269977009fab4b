-- Plans of projections. (openCypher 9, WITH and RETURN)
use Rattle.std.specs.Prelude.{◌≡◌, false, List, length, map, Ok, IsOk, IfOk, IsTrue, Option, None}
use Rattle.std.specs.List.{All, AllByRecursion, Contains}
use Rattle.cy_values.specs.declared.rows.Cell.{Cell}
use Rattle.cy_trees.specs.Trees.{Expression, Item, Projection, «with»}
use Rattle.cy_scope_kinds.specs.Rows.{row_fits}
use Rattle.cy_scope_kinds.specs.Aggregates.{has_aggregates}
use Rattle.cy_scope_kinds.specs.Scopes.{Scope}
use Rattle.cy_scope.specs.Views.{has_order}
use Rattle.cy_graph.specs.Graph.{State, IsGraph}
use Rattle.cy_oneshot_patterns.specs.Outcomes.{IsSameOutcome}
use Rattle.cy_oneshot_meaning.specs.Projection.{projection_rows}
use Rattle.cy_oneshot_meaning.specs.Queries.{rows_after}
use Rattle.cy_planner_algebra.specs.Plans.{Plan, width}
use Rattle.cy_planner_algebra.specs.Parts.{parts}
use Rattle.cy_planner_algebra.specs.Meaning.{rows_of}
use Rattle.cy_planner_algebra.specs.Sure.{IsSureOn}
use Rattle.cy_planner_algebra.specs.Within.{IsWithin}
use Rattle.cy_planner_rows.specs.Rows.{FitsRows}
use Rattle.cy_scope_kinds.specs.Kinded.{IsKinded}
use Rattle.cy_planner_optional.specs.Matched.{IsTestKinded, where_only}

abbrev pub expressions_in : List Item → List Expression
expressions_in items = map (λ i. i.expression) items

-- a projection such as stands in the query of a view: without aggregates and without order
abbrev pub IsPlain : Projection → Type 0
IsPlain p = (has_aggregates p ≡ false) × (has_order p ≡ false)

-- on a graph the rows of a plan fit a scope of the items, and none of them has a fault there
pub record CanProject (below : Plan) (p : Projection) (graph : State) (scope : Scope) : Type 0 where
  pub is : IsGraph graph
  pub kinded : AllByRecursion (IsKinded scope) (expressions_in p.items)
  pub fits : FitsRows scope graph.content below
  pub ok : IsOk (projection_rows graph.content p (rows_of graph.content below))

-- The rows of a projection, as a bag. No operator counts a row more often than the operators below, or than the table that the projection makes
-- without DISTINCT, do.
pub record IsProjection (below : Plan) (p : Projection) (made : Plan) : Type 0 where
  pub as_wide : width made ≡ length p.items
  pub rows : (graph : State) (scope : Scope) → CanProject below p graph scope → IsSameOutcome (Ok (rows_of graph.content made)) (projection_rows graph.content p (rows_of graph.content below))
  pub sure : (graph : State) (scope : Scope) → CanProject below p graph scope → IsSureOn graph.content below → IsSureOn graph.content made
  pub bounded : (graph : State) (scope : Scope) (tables : List (List (List Cell))) (table : List (List Cell)) → CanProject below p graph scope → Contains tables table
      → IsSameOutcome (Ok table) (projection_rows graph.content (record p { distinct = false }) (rows_of graph.content below))
      → All (IsWithin graph.content tables) (parts below) → All (IsWithin graph.content tables) (parts made)

-- on a graph WITH can project, its rows fit a scope in which its WHERE has a kind, and it has no fault there
pub record CanGoOn (below : Plan) (p : Projection) (test : Option Expression) (graph : State) (scope after : Scope) : Type 0 where
  pub is : IsGraph graph
  pub kinded : AllByRecursion (IsKinded scope) (expressions_in p.items)
  pub fits : FitsRows scope graph.content below
  pub long : length after ≡ length p.items
  pub test_kinded : IsTestKinded after test
  pub made_fit : IfOk (projection_rows graph.content p (rows_of graph.content below)) (AllByRecursion (λ row. IsTrue (row_fits after row)))
  pub ok : IsOk (rows_after graph.content («with» p (where_only test)) (rows_of graph.content below))

-- The rows of WITH, as a bag; counts are bounded as those of its projection are.
pub record IsWith (below : Plan) (p : Projection) (test : Option Expression) (made : Plan) : Type 0 where
  pub as_wide : width made ≡ length p.items
  pub rows : (graph : State) (scope after : Scope) → CanGoOn below p test graph scope after
      → IsSameOutcome (Ok (rows_of graph.content made)) (rows_after graph.content («with» p (where_only test)) (rows_of graph.content below))
  pub sure : (graph : State) (scope after : Scope) → CanGoOn below p test graph scope after → IsSureOn graph.content below → IsSureOn graph.content made
  pub bounded : (graph : State) (scope after : Scope) (tables : List (List (List Cell))) (table : List (List Cell)) → CanGoOn below p test graph scope after → Contains tables table
      → IsSameOutcome (Ok table) (rows_after graph.content («with» (record p { distinct = false }) (where_only None)) (rows_of graph.content below))
      → All (IsWithin graph.content tables) (parts below) → All (IsWithin graph.content tables) (parts made)
