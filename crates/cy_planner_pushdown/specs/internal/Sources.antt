-- Where the columns of an operator are looked for. (own)
use Rattle.std.specs.Prelude.{ℕ, map, ⊤}
use Rattle.cy_planner_algebra.specs.PlanModels.{output_of, plan_of}
use Rattle.cy_planner_pushdown.specs.declared.columns.Source.{Source}
use Rattle.cy_planner_pushdown.specs.declared.columns.Source.TheVariants as source
use Rattle.cy_planner_pushdown.specs.internal.Inputs.{AreWellFormed}
use Rattle.cy_planner_pushdown.specs.internal.Pushed.{IsOnLeft, IsOnRight, IsTakenOver}

abbrev pub IsWellFormed : Source → Type 0
IsWellFormed (source.Left inputs) = AreWellFormed inputs.now
IsWellFormed (source.Right inputs) = AreWellFormed inputs.now
IsWellFormed (source.Outputs outputs) = ⊤

-- what stands in a column of the operator stands in a column of the source
abbrev pub stands : Source → ℕ → ℕ → Type 0
stands (source.Left inputs) = IsOnLeft (plan_of inputs.now.left.now) (plan_of inputs.now.right.now) inputs.now.keys.now
stands (source.Right inputs) = IsOnRight (plan_of inputs.now.left.now) (plan_of inputs.now.right.now) inputs.now.keys.now
stands (source.Outputs outputs) = IsTakenOver (map output_of outputs.now)
