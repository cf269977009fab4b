-- When a plan serves a query. (own)
use Rattle.std.specs.Prelude.{Ok}
use Rattle.std.specs.List.{All}
use Rattle.cy_trees.specs.Trees.{Statement}
use Rattle.cy_graph.specs.Graph.{State, IsGraph}
use Rattle.cy_oneshot_patterns.specs.Outcomes.{IsSameOutcome}
use Rattle.cy_oneshot_meaning.specs.Queries.{statement_rows}
use Rattle.cy_planner_algebra.specs.Plans.{Plan}
use Rattle.cy_planner_algebra.specs.Parts.{parts}
use Rattle.cy_planner_algebra.specs.Meaning.{rows_of}
use Rattle.cy_planner_algebra.specs.Sure.{IsSure}
use Rattle.cy_planner_algebra.specs.WellFormed.{IsWellFormed}
use Rattle.cy_planner_algebra.specs.Within.{IsWithin}
use Rattle.cy_planner.specs.WideTables.{wide_tables}

-- On every graph the rows of the plan are, as a bag, the rows of the query; no operator of it counts a row more often than the wide
-- tables do; and no expression of it has a fault.
pub record Serves (p : Plan) (query : Statement) : Type 0 where
  pub well_formed : IsWellFormed p
  pub sure : IsSure p
  pub rows : (graph : State) → IsGraph graph → IsSameOutcome (Ok (rows_of graph.content p)) (statement_rows graph.content query)
  pub bounded : (graph : State) → IsGraph graph → All (IsWithin graph.content (wide_tables graph.content query)) (parts p)
