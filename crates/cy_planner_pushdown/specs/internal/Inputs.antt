-- The inputs of a join, with how wide the rows of each are. (own)
use Rattle.cy_planner_algebra.specs.PlanModels.{plan_of}
use Rattle.cy_planner_algebra.specs.WellFormed.{IsWellFormed}
use Rattle.cy_planner_pushdown.specs.declared.inputs.Inputs.{Inputs}

-- both are plans that can be meant
abbrev pub AreWellFormed : Inputs → Type 0
AreWellFormed inputs = IsWellFormed (plan_of inputs.left.now) × IsWellFormed (plan_of inputs.right.now)
