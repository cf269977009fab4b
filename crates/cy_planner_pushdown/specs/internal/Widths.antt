-- How wide the rows of an operator's inputs are. (own)
use Rattle.std.specs.Prelude.{ℕ}
use Rattle.cy_planner_algebra.specs.Plans as plan
use Rattle.cy_planner_algebra.specs.Plans.{Plan, width}

-- how wide those of its right input are, where they stand beside those of its left one; 0 elsewhere
abbrev pub right_width : Plan → ℕ
right_width (plan.join left right keys) = width right
right_width (plan.outer left right keys test) = width right
right_width p = 0
