-- What stands above the left one of two inputs, on the way down to outer joins: how they go together, the right one, and the layers on that. (own)
use Rattle.std.specs.Prelude.{List, [], ◌∷◌}
use Rattle.cy_planner_algebra.specs.Plans.{Plan}
use Rattle.cy_planner_algebra.specs.PlanModels.{plan_of}
use Rattle.cy_planner_algebra.specs.WellFormed.{IsWellFormed}
use Rattle.cy_planner_rewriting.specs.internal.Layers.{layered}
use Rattle.cy_planner.specs.internal.Standing.{StandsFor}
use Rattle.cy_planner.specs.declared.outer_filters.OuterAbove.{OuterAbove}
use Rattle.cy_planner_rewriting.specs.internal.Opened.{together}

-- layers over a plan together with another one
abbrev pub put_outer_over_one : OuterAbove → Plan → Plan
put_outer_over_one a p = layered a.layers.items (together a.joint p (plan_of a.right))

-- several over a plan, the uppermost first
abbrev pub put_outer_over : List OuterAbove → Plan → Plan
put_outer_over [] p = p
put_outer_over (a ∷ others) p = put_outer_over_one a (put_outer_over others p)

-- An operator that can be meant, of a plan: below all that stands above it, what stands for it stands for the plan.
pub record StandsBelowOuters (whole : Plan) (above : List OuterAbove) (part : Plan) : Type 0 where
  pub good : IsWellFormed part
  pub placed : (p : Plan) → StandsFor part p → StandsFor whole (put_outer_over above p)
