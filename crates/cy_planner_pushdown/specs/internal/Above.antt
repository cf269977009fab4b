-- What stands above an operator of a plan. (own)
use Rattle.std.specs.Prelude.{List, [], ◌∷◌, map}
use Rattle.cy_trees.specs.TreeModels.{expression_of}
use Rattle.cy_planner_algebra.specs.Plans as plan
use Rattle.cy_planner_algebra.specs.Plans.{Plan}
use Rattle.cy_planner_algebra.specs.PlanModels.{output_of, plan_of}
use Rattle.cy_planner_pushdown.specs.declared.above.Above.{Above}
use Rattle.cy_planner_pushdown.specs.declared.above.Above.TheVariants as above

-- an operator over a plan
abbrev pub placed : Above → Plan → Plan
placed (above.Lookup column attribute) p = plan.lookup p column attribute
placed (above.Filter test) p = plan.filter p (expression_of test)
placed (above.AllDifferent columns) p = plan.all_different p columns.items
placed (above.Project outputs) p = plan.project p (map output_of outputs.items)
placed above.Distinct p = plan.distinct p
placed (above.JoinLeft right keys) p = plan.join p (plan_of right) keys.items
placed (above.JoinRight left keys) p = plan.join (plan_of left) p keys.items
placed (above.Outer right keys test) p = plan.outer p (plan_of right) keys.items (expression_of test)
placed (above.Semi right keys keeping) p = plan.semi p (plan_of right) keys.items keeping
placed (above.Union right) p = plan.union p (plan_of right)

-- several over a plan, the uppermost first
abbrev pub placed_over : List Above → Plan → Plan
placed_over [] p = p
placed_over (a ∷ others) p = placed a (placed_over others p)
