-- Conditions that are looked through, and those that are left. (own)
use Rattle.std.specs.Prelude.{◌≡◌, ℕ, ◌+◌, ◌≤◌, ◌++◌, Bool, ◌&&◌, List, [], IsOk, length, map, filter}
use Rattle.std.specs.List.{All, AllByRecursion, Contains}
use Rattle.cy_values.specs.declared.rows.Cell.{Cell}
use Rattle.cy_trees.specs.Trees.{Expression}
use Rattle.cy_trees.specs.TreeModels.{expression_of}
use Rattle.cy_scope_kinds.specs.Kinded.{IsKinded}
use Rattle.cy_scope_kinds.specs.Scopes.{Scope}
use Rattle.cy_graph.specs.Graph.{Content, State, IsGraph}
use Rattle.cy_planner_algebra.specs.Plans.{Plan, width}
use Rattle.cy_planner_algebra.specs.Meaning.{rows_of}
use Rattle.cy_planner_algebra.specs.Parts.{parts}
use Rattle.cy_planner_algebra.specs.Sure.{IsSureOn}
use Rattle.cy_planner_algebra.specs.Within.{IsWithin}
use Rattle.cy_planner_rows.specs.Rows.{FitsRows, condition_on}
use Rattle.cy_planner_pushdown.specs.After.{keeps_each}
use Rattle.cy_planner_pushdown.specs.declared.filters.Look.{Look}
use Rattle.cy_planner_pushdown.specs.declared.filters.Look.TheVariants as look
use Rattle.cy_planner_pushdown.specs.internal.Conditions.{IsOnCells}
use Rattle.cy_planner_pushdown.specs.internal.Pushed.{CanBePushed}
use Rattle.cy_planner_pushdown.specs.internal.Tests.{CanAllBePushed, are_true}

-- Of several conditions on longer rows some wait, some are conditions on columns of a plan, and the rest are neither.
pub record AreFound (before : ℕ) (below : Plan) (all waiting : List Expression) (found : List (List ℕ × Expression)) (rest : List Expression) : Type 0 where
  pub same : (graph : Content) (left right : List Cell) → length left ≡ before
      → keeps_each graph all (left ++ right) ≡ (keeps_each graph waiting (left ++ right) && (are_true found graph right && keeps_each graph rest (left ++ right)))
  pub can : CanAllBePushed below found
  pub among_waiting : AllByRecursion (Contains all) waiting
  pub fewer : length waiting + length rest ≤ length all
  pub among : AllByRecursion (Contains all) rest

-- what a condition is
abbrev pub IsLook : ℕ → Plan → Expression → Look → Type 0
IsLook before below e (look.OnCells t) = IsOnCells e (map (λ n. before + n) t.columns.items) (expression_of t.test) × CanBePushed below t.columns.items (expression_of t.test)
IsLook before below e (look.Other other) = expression_of other ≡ e

-- each row has a truth of a condition
abbrev pub HaveTruth : Content → List (List Cell) → Expression → Type 0
HaveTruth graph rows e = AllByRecursion (λ row. IsOk (condition_on graph e row)) rows

-- Of the rows of a plan those with which some of several conditions are true; the others wait.
pub record AreFilteredSoFar (below : Plan) (all waiting : List Expression) (p : Plan) : Type 0 where
  pub as_wide : width p ≡ width below
  pub holds : Content → List Cell → Bool
  pub same : (graph : Content) (row : List Cell) → keeps_each graph all row ≡ (keeps_each graph waiting row && holds graph row)
  pub among : AllByRecursion (Contains all) waiting
  pub rows : (graph : State) (scope : Scope) → IsGraph graph → AllByRecursion (IsKinded scope) all → FitsRows scope graph.content below
      → rows_of graph.content p ≡ filter (holds graph.content) (rows_of graph.content below)
  pub sure : (graph : State) (scope : Scope) → IsGraph graph → AllByRecursion (IsKinded scope) all → FitsRows scope graph.content below → IsSureOn graph.content below
      → AllByRecursion (HaveTruth graph.content (rows_of graph.content below)) all → IsSureOn graph.content p
  pub bounded : (graph : State) (scope : Scope) (tables : List (List (List Cell))) → IsGraph graph → AllByRecursion (IsKinded scope) all → FitsRows scope graph.content below
      → All (IsWithin graph.content tables) (parts below) → All (IsWithin graph.content tables) (parts p)

-- the conditions that waited were asked too
abbrev pub AreAsked : Plan → List Expression → Plan → Type 0
AreAsked p tests q = (below : Plan) (all : List Expression) → AreFilteredSoFar below all tests p → AreFilteredSoFar below all [] q
