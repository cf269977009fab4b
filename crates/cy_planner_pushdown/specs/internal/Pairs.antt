-- How the two operators below an operator stand together. (own)
use Rattle.cy_planner_algebra.specs.Plans as plan
use Rattle.cy_planner_algebra.specs.Plans.{Plan}
use Rattle.cy_planner_pushdown.specs.declared.above.Pair.{Pair}
use Rattle.cy_planner_pushdown.specs.declared.above.Pair.TheVariants as pair

-- two plans together
abbrev pub paired : Pair → Plan → Plan → Plan
paired (pair.Join keys) left right = plan.join left right keys.items
paired pair.Union left right = plan.union left right
