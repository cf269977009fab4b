-- Conditions on longer rows, of which those of a plan are the last columns. (own)
use Rattle.std.specs.Prelude.{◌≡◌, ℕ, ◌≤◌, ◌++◌, Bool, ◌&&◌, List, length, filter}
use Rattle.std.specs.List.{All, AllByRecursion, Contains, list_all}
use Rattle.cy_values.specs.declared.rows.Cell.{Cell}
use Rattle.cy_trees.specs.Trees.{Expression}
use Rattle.cy_graph.specs.Graph.{Content, State, IsGraph}
use Rattle.cy_planner_algebra.specs.Plans.{Plan, width}
use Rattle.cy_planner_algebra.specs.Meaning.{rows_of}
use Rattle.cy_planner_algebra.specs.Parts.{parts}
use Rattle.cy_planner_algebra.specs.Sure.{IsSureOn}
use Rattle.cy_planner_algebra.specs.Within.{IsWithin}
use Rattle.cy_planner_rows.specs.Rows.{keeps}

-- each of several conditions is true of a row
abbrev pub keeps_each : Content → List Expression → List Cell → Bool
keeps_each graph tests row = list_all (λ e. keeps graph e row) tests

-- Of the rows of a plan those with which some of several conditions are true, whatever this many columns before them hold; the rest of the conditions is
-- left. No operator counts a row more often than some row of the operators below.
pub record AreKept (before : ℕ) (below : Plan) (tests rest : List Expression) (p : Plan) : Type 0 where
  pub as_wide : width p ≡ width below
  pub holds : Content → List Cell → Bool
  pub same : (graph : Content) (left right : List Cell) → length left ≡ before → keeps_each graph tests (left ++ right) ≡ (holds graph right && keeps_each graph rest (left ++ right))
  pub among : AllByRecursion (Contains tests) rest
  pub fewer : length rest ≤ length tests
  pub rows : (graph : State) → IsGraph graph → rows_of graph.content p ≡ filter (holds graph.content) (rows_of graph.content below)
  pub sure : (graph : State) → IsGraph graph → IsSureOn graph.content below → IsSureOn graph.content p
  pub bounded : (graph : State) (tables : List (List (List Cell))) → IsGraph graph → All (IsWithin graph.content tables) (parts below) → All (IsWithin graph.content tables) (parts p)
