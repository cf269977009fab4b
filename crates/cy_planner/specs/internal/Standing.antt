-- Plans in place of others, on graphs. (own)
use Rattle.std.specs.Prelude.{◌≡◌, List}
use Rattle.std.specs.List.{All}
use Rattle.cy_values.specs.declared.rows.Cell.{Cell}
use Rattle.cy_graph.specs.Graph.{State, IsGraph}
use Rattle.cy_planner_algebra.specs.Plans.{Plan, width}
use Rattle.cy_planner_algebra.specs.Meaning.{rows_of}
use Rattle.cy_planner_algebra.specs.Parts.{parts}
use Rattle.cy_planner_algebra.specs.Sure.{IsSureOn}
use Rattle.cy_planner_algebra.specs.WellFormed.{IsWellFormed}
use Rattle.cy_planner_algebra.specs.Within.{IsWithin}

-- A plan that can stand in place of another one: it can be meant where that can, on each graph it has the same rows in the same order, its expressions have no fault where
-- those of the other have none, and where the operators of the other count no row more often than some tables do, its operators don't.
pub record StandsFor (p q : Plan) : Type 0 where
  pub as_wide : width q ≡ width p
  pub well_formed : IsWellFormed p → IsWellFormed q
  pub rows : (graph : State) → IsGraph graph → rows_of graph.content q ≡ rows_of graph.content p
  pub sure : (graph : State) → IsGraph graph → IsSureOn graph.content p → IsSureOn graph.content q
  pub bounded : (graph : State) (tables : List (List (List Cell))) → IsGraph graph → All (IsWithin graph.content tables) (parts p) → All (IsWithin graph.content tables) (parts q)
