-- Plans that columns of another plan's rows stand for. (own)
use Rattle.std.specs.Prelude.{ℕ, List, map}
use Rattle.cy_planner_algebra.specs.Plans as plan
use Rattle.cy_planner_algebra.specs.Plans.{Plan}
use Rattle.cy_planner_algebra.specs.PlanModels.{plan_of}
use Rattle.cy_planner_rows.specs.Columns.{column_output}
use Rattle.cy_planner_rewriting.specs.declared.narrowing.narrows.Narrow.{Narrow}

-- columns of the rows of a plan
abbrev pub taken : List ℕ → Plan → Plan
taken columns p = plan.project p (map column_output columns)

-- the plan whose rows the columns make
abbrev pub restored : Narrow → Plan
restored n = taken n.columns.items (plan_of n.plan)
