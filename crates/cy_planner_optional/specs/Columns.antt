-- The rows of a plan with the values of expressions after them, and the values that the maps of a pattern ask for. (own)
use Rattle.std.specs.Prelude.{◌≡◌, ◌+◌, ◌++◌, IsOk, List, flat_map, length, map}
use Rattle.std.specs.List.{All, AllByRecursion}
use Rattle.cy_values.specs.declared.rows.Cell.{Cell}
use Rattle.cy_trees.specs.Trees.{Expression, MapEntry}
use Rattle.cy_scope_kinds.specs.Kinded.{IsKinded}
use Rattle.cy_scope_kinds.specs.Scopes.{Scope}
use Rattle.cy_graph.specs.Graph.{State, IsGraph}
use Rattle.cy_expr.specs.Evaluation.{cell_of}
use Rattle.cy_expr.specs.Graphs.{lookups}
use Rattle.cy_oneshot_patterns.specs.Places.{Place}
use Rattle.cy_planner_algebra.specs.Meaning.{rows_of}
use Rattle.cy_planner_algebra.specs.Parts.{parts}
use Rattle.cy_planner_algebra.specs.Plans.{Plan, width}
use Rattle.cy_planner_algebra.specs.Sure.{IsSureOn}
use Rattle.cy_planner_algebra.specs.Within.{IsWithin}
use Rattle.cy_planner_rows.specs.Rows.{FitsRows, cells_on}
use Rattle.cy_planner_tables.specs.Shared.{other_entries}

-- the entries of maps that read the row, and their values
abbrev pub reading_entries : List Place → List MapEntry
reading_entries places = flat_map other_entries places

abbrev pub values_of : List MapEntry → List Expression
values_of entries = map (λ e. e.value) entries

-- The rows of a plan, each with the values of expressions after it. No operator counts a row more often than some row of the operators below.
pub record IsExtended (below : Plan) (values : List Expression) (p : Plan) : Type 0 where
  pub as_wide : width p ≡ width below + length values
  pub rows : (graph : State) (scope : Scope) → IsGraph graph → AllByRecursion (IsKinded scope) values → FitsRows scope graph.content below
      → rows_of graph.content p ≡ map (λ row. row ++ cells_on graph.content values row) (rows_of graph.content below)
  pub sure : (graph : State) (scope : Scope) → IsGraph graph → AllByRecursion (IsKinded scope) values → FitsRows scope graph.content below → IsSureOn graph.content below
      → AllByRecursion (λ row. AllByRecursion (λ e. IsOk (cell_of (lookups graph.content) row e)) values) (rows_of graph.content below) → IsSureOn graph.content p
  pub bounded : (graph : State) (scope : Scope) (tables : List (List (List Cell))) → IsGraph graph → AllByRecursion (IsKinded scope) values → FitsRows scope graph.content below
      → All (IsWithin graph.content tables) (parts below) → All (IsWithin graph.content tables) (parts p)
