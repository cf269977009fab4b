-- Plans in place of others. (own)
use Rattle.std.specs.Prelude.{◌≡◌, List}
use Rattle.std.specs.List.{All}
use Rattle.cy_values.specs.declared.rows.Cell.{Cell}
use Rattle.cy_graph.specs.Graph.{Content}
use Rattle.cy_planner_algebra.specs.Plans.{Plan, width}
use Rattle.cy_planner_algebra.specs.Meaning.{rows_of}
use Rattle.cy_planner_algebra.specs.Parts.{parts}
use Rattle.cy_planner_algebra.specs.Sure.{IsSureOn}
use Rattle.cy_planner_algebra.specs.WellFormed.{IsWellFormed}
use Rattle.cy_planner_algebra.specs.Within.{IsWithin}

-- A plan that can stand in place of another one: on each graph it has the same rows in the same order, its expressions have no fault
-- where those of the other have none, and where the operators of the other count no row more often than some tables do, its operators don't.
pub record IsRewritten (p q : Plan) : Type 0 where
  pub as_wide : width q ≡ width p
  pub well_formed : IsWellFormed p → IsWellFormed q
  pub rows : (graph : Content) → rows_of graph q ≡ rows_of graph p
  pub sure : (graph : Content) → IsSureOn graph p → IsSureOn graph q
  pub bounded : (graph : Content) (tables : List (List (List Cell))) → All (IsWithin graph tables) (parts p) → All (IsWithin graph tables) (parts q)
