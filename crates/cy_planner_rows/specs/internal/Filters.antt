-- A filter by a condition that may ask something of the graph. (own)
use Rattle.std.specs.Prelude.{◌≡◌, ◌+◌, ◌≤◌, length}
use Rattle.cy_trees.specs.Trees.{Expression}
use Rattle.cy_planner_algebra.specs.Plans as plan
use Rattle.cy_planner_algebra.specs.Plans.{Plan, width}
use Rattle.cy_planner_algebra.specs.WellFormed.{IsWellFormed, greatest_width}
use Rattle.cy_planner_rows.specs.internal.Lowered.{lowered}
use Rattle.cy_planner_rows.specs.Places.{place}
use Rattle.cy_planner_rows.specs.internal.Asked.{wanted_of}
use Rattle.cy_planner_rows.specs.internal.Lookups.{narrowed, over}

-- what the condition asks of the graph is looked up before, and dropped after
abbrev pub looked_up_filter : Plan → Expression → Plan
looked_up_filter below test = narrowed (width below) (plan.filter (over below (wanted_of test)) (lowered (place (width below) (wanted_of test)) test))

-- A plan is that filter of another one, whose rows leave room for what is looked up.
pub record IsLookedUpFilter (below : Plan) (test : Expression) (p : Plan) : Type 0 where
  pub is : p ≡ looked_up_filter below test
  pub well_formed : IsWellFormed below
  pub room : width below + length (wanted_of test) ≤ greatest_width
