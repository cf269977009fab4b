-- The predicate of an outer join, taken apart. (own)
use Rattle.std.specs.Prelude.{◌≡◌, ℕ, ◌++◌, Bool, ◌&&◌, List, IsTrue, Option, length, filter}
use Rattle.std.specs.List.{All}
use Rattle.cy_values.specs.declared.rows.Cell.{Cell}
use Rattle.cy_trees.specs.Trees.{Expression}
use Rattle.cy_graph.specs.Graph.{Content, State, IsGraph}
use Rattle.cy_expr.specs.Reading.{reads_columns}
use Rattle.cy_planner_algebra.specs.Plans.{Plan, width}
use Rattle.cy_planner_algebra.specs.Expressions.{holds}
use Rattle.cy_planner_algebra.specs.Meaning.{rows_of}
use Rattle.cy_planner_algebra.specs.Parts.{parts}
use Rattle.cy_planner_algebra.specs.Sure.{HasTruth, IsSureOn}
use Rattle.cy_planner_algebra.specs.WellFormed.{IsOver}
use Rattle.cy_planner_algebra.specs.Within.{IsWithin}
use Rattle.cy_planner_rows.specs.Conditions.{or_true}

-- A predicate is true of a left and a right row where the right row is kept and the rest of the predicate is true.
pub record IsSplit (before : ℕ) (right : Plan) (test : Expression) (made : Plan) (rest : Option Expression) : Type 0 where
  pub as_wide : width made ≡ width right
  pub keeps : Content → List Cell → Bool
  pub same : IsTrue (reads_columns test) → (graph : Content) (l r : List Cell) → length l ≡ before → holds test (l ++ r) ≡ (keeps graph r && holds (or_true rest) (l ++ r))
  pub rows : (graph : State) → IsGraph graph → rows_of graph.content made ≡ filter (keeps graph.content) (rows_of graph.content right)
  pub truth : (row : List Cell) → HasTruth test row → HasTruth (or_true rest) row
  pub over : (n : ℕ) → IsOver n test → IsOver n (or_true rest)
  pub sure : (graph : State) → IsGraph graph → IsSureOn graph.content right → IsSureOn graph.content made
  pub bounded : (graph : State) (tables : List (List (List Cell))) → IsGraph graph → All (IsWithin graph.content tables) (parts right) → All (IsWithin graph.content tables) (parts made)
