-- The operators right below an operator, and the one of whose rows it keeps some. (own)
use Rattle.std.specs.Prelude.{◌<◌, ⊤, List, [], ◌∷◌, Option, None, Some}
use Rattle.cy_planner_algebra.specs.declared.operators.Below as coded_below
use Rattle.cy_planner_algebra.specs.declared.operators.Below.TheVariants as parts_below
use Rattle.cy_planner_algebra.specs.declared.operators.Operator.{Operator, size-Operator}
use Rattle.cy_planner_algebra.specs.Plans as plan
use Rattle.cy_planner_algebra.specs.Plans.{Plan}
use Rattle.cy_planner_algebra.specs.PlanModels.{plan_of}

-- the plans right below one, the left one first
abbrev pub below : Plan → List Plan
below plan.unit = []
below plan.nodes = []
below (plan.rels types orientation) = []
below (plan.join left right keys) = left ∷ right ∷ []
below (plan.outer left right keys test) = left ∷ right ∷ []
below (plan.semi left right keys keeping) = left ∷ right ∷ []
below (plan.lookup p column attribute) = p ∷ []
below (plan.filter p test) = p ∷ []
below (plan.all_different p columns) = p ∷ []
below (plan.project p outputs) = p ∷ []
below (plan.distinct p) = p ∷ []
below (plan.union left right) = left ∷ right ∷ []

-- the plan below of whose rows one keeps some, each as often as it stands there, and which makes no others
abbrev pub sifted : Plan → Option Plan
sifted (plan.semi left right keys keeping) = Some left
sifted (plan.filter p test) = Some p
sifted (plan.all_different p columns) = Some p
sifted _ = None

-- the plans that the operators stand for
abbrev pub plans_in : coded_below.Below → List Plan
plans_in parts_below.None = []
plans_in (parts_below.One p) = plan_of p.now ∷ []
plans_in (parts_below.Two left right) = plan_of left.now ∷ plan_of right.now ∷ []

-- this holds of each of the operators
abbrev pub Each : (Operator → Type 0) → coded_below.Below → Type 0
Each Holds parts_below.None = ⊤
Each Holds (parts_below.One p) = Holds p.now
Each Holds (parts_below.Two left right) = Holds left.now × Holds right.now

-- an operator is made of fewer values than another one
abbrev pub IsSmaller : Operator → Operator → Type 0
IsSmaller other part = size-Operator part < size-Operator other
