-- What is read on the rows of a plan: conditions and columns, and what plans make of it. (openCypher 9, WHERE, WITH and RETURN; that no
-- operator counts a row more often: own)
use Rattle.std.specs.Prelude.{◌≡◌, Bool, List, length, map, filter, Result, IsOk, IsTrue}
use Rattle.std.specs.List.{All, AllByRecursion}
use Rattle.cy_values.specs.declared.rows.Cell.{Cell}
use Rattle.cy_values.specs.declared.truth.Truth.{Truth}
use Rattle.cy_trees.specs.Trees.{Expression}
use Rattle.cy_scope_kinds.specs.Kinded.{IsKinded}
use Rattle.cy_scope_kinds.specs.Rows.{row_fits}
use Rattle.cy_scope_kinds.specs.Scopes.{Scope}
use Rattle.cy_graph.specs.Graph.{Content, State, IsGraph}
use Rattle.cy_expr.specs.declared.faults.EvalFault.{EvalFault}
use Rattle.cy_expr.specs.Evaluation.{cell_of}
use Rattle.cy_expr.specs.Faults.{on_one}
use Rattle.cy_expr.specs.Graphs.{lookups}
use Rattle.cy_expr.specs.Logic.{truth_of}
use Rattle.cy_expr.specs.Operators.{value_in_cell}
use Rattle.cy_planner_algebra.specs.Plans.{Plan, width}
use Rattle.cy_planner_algebra.specs.Parts.{parts}
use Rattle.cy_planner_algebra.specs.Expressions.{cell_or_null, is_true}
use Rattle.cy_planner_algebra.specs.Meaning.{rows_of}
use Rattle.cy_planner_algebra.specs.Sure.{IsSureOn}
use Rattle.cy_planner_algebra.specs.Within.{IsWithin}

-- the truth of a condition on a row, or its fault
abbrev pub condition_on : Content → Expression → List Cell → Result Truth EvalFault
condition_on graph test row = on_one truth_of (on_one value_in_cell (cell_of (lookups graph) row test))

-- it is true
abbrev pub keeps : Content → Expression → List Cell → Bool
keeps graph test row = is_true (condition_on graph test row)

-- the cells of several expressions on a row
abbrev pub cells_on : Content → List Expression → List Cell → List Cell
cells_on graph es row = map (λ e. cell_or_null (cell_of (lookups graph) row e)) es

-- the rows of a plan fit a scope
abbrev pub FitsRows : Scope → Content → Plan → Type 0
FitsRows scope graph p = (length scope ≡ width p) × AllByRecursion (λ row. IsTrue (row_fits scope row)) (rows_of graph p)

-- an expression has a kind in some scope of the rows of a plan
abbrev pub IsReadOver : Plan → Expression → Type 0
IsReadOver p e = (scope : Scope) × (length scope ≡ width p) × IsKinded scope e

abbrev pub AreReadOver : Plan → List Expression → Type 0
AreReadOver p es = (scope : Scope) × (length scope ≡ width p) × AllByRecursion (IsKinded scope) es

-- Of the rows of a plan those for which a condition is true. No operator counts a row more often than some row of the operators below.
pub record IsFiltered (below : Plan) (test : Expression) (p : Plan) : Type 0 where
  pub as_wide : width p ≡ width below
  pub rows : (graph : State) (scope : Scope) → IsGraph graph → IsKinded scope test → FitsRows scope graph.content below
      → rows_of graph.content p ≡ filter (keeps graph.content test) (rows_of graph.content below)
  pub sure : (graph : State) (scope : Scope) → IsGraph graph → IsKinded scope test → FitsRows scope graph.content below → IsSureOn graph.content below
      → AllByRecursion (λ row. IsOk (condition_on graph.content test row)) (rows_of graph.content below) → IsSureOn graph.content p
  pub bounded : (graph : State) (scope : Scope) (tables : List (List (List Cell))) → IsGraph graph → IsKinded scope test → FitsRows scope graph.content below
      → All (IsWithin graph.content tables) (parts below) → All (IsWithin graph.content tables) (parts p)

-- Of each row of a plan the cells of some expressions. No operator but the uppermost counts a row more often than some row of the operators
-- below: it may merge rows.
pub record IsProjected (below : Plan) (es : List Expression) (p : Plan) : Type 0 where
  pub as_wide : width p ≡ length es
  pub rows : (graph : State) (scope : Scope) → IsGraph graph → AllByRecursion (IsKinded scope) es → FitsRows scope graph.content below
      → rows_of graph.content p ≡ map (cells_on graph.content es) (rows_of graph.content below)
  pub sure : (graph : State) (scope : Scope) → IsGraph graph → AllByRecursion (IsKinded scope) es → FitsRows scope graph.content below → IsSureOn graph.content below
      → AllByRecursion (λ row. AllByRecursion (λ e. IsOk (cell_of (lookups graph.content) row e)) es) (rows_of graph.content below) → IsSureOn graph.content p
  pub bounded : (graph : State) (tables : List (List (List Cell))) → AreReadOver below es
      → All (IsWithin graph.content tables) (parts below) → IsWithin graph.content tables p → All (IsWithin graph.content tables) (parts p)
