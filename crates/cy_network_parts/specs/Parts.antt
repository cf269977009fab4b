-- The operators that stand right below an operator of a plan, and the chains that operators make. (own)
use Rattle.std.specs.Prelude.{◌≡◌, ◌≢◌, ℕ, ◌<◌, ◌⊎◌, Bool, true, false, List, [], ◌∷◌, drop, length, take}
use Rattle.std.specs.List.{All}
use Rattle.cy_planner_algebra.specs.Plans as plan
use Rattle.cy_planner_algebra.specs.Plans.{Plan}
use Rattle.cy_network_parts.specs.declared.held.Side.{Side}
use Rattle.cy_network_parts.specs.declared.held.Side.TheVariants.{Left, Right}
use Rattle.cy_network_parts.specs.Memories.{is_scan}

-- how many operators stand right below an operator
abbrev pub below_count : Plan → ℕ
below_count plan.unit = 0
below_count plan.nodes = 0
below_count (plan.rels types orientation) = 0
below_count (plan.join left right keys) = 2
below_count (plan.outer left right keys test) = 2
below_count (plan.semi left right keys keeping) = 2
below_count (plan.lookup p column attribute) = 1
below_count (plan.filter p test) = 1
below_count (plan.all_different p columns) = 1
below_count (plan.project p outputs) = 1
below_count (plan.distinct p) = 1
below_count (plan.union left right) = 2

-- whether an operator is that of the empty row
abbrev pub is_unit : Plan → Bool
is_unit plan.unit = true
is_unit plan.nodes = false
is_unit (plan.rels types orientation) = false
is_unit (plan.join left right keys) = false
is_unit (plan.outer left right keys test) = false
is_unit (plan.semi left right keys keeping) = false
is_unit (plan.lookup p column attribute) = false
is_unit (plan.filter p test) = false
is_unit (plan.all_different p columns) = false
is_unit (plan.project p outputs) = false
is_unit (plan.distinct p) = false
is_unit (plan.union left right) = false

-- the operator right below one, or the left one of two
abbrev pub first_below : Plan → Plan
first_below plan.unit = plan.unit
first_below plan.nodes = plan.nodes
first_below (plan.rels types orientation) = plan.rels types orientation
first_below (plan.join left right keys) = left
first_below (plan.outer left right keys test) = left
first_below (plan.semi left right keys keeping) = left
first_below (plan.lookup p column attribute) = p
first_below (plan.filter p test) = p
first_below (plan.all_different p columns) = p
first_below (plan.project p outputs) = p
first_below (plan.distinct p) = p
first_below (plan.union left right) = left

-- the right one of two inputs right below one
abbrev pub second_below : Plan → Plan
second_below plan.unit = plan.unit
second_below plan.nodes = plan.nodes
second_below (plan.rels types orientation) = plan.rels types orientation
second_below (plan.join left right keys) = right
second_below (plan.outer left right keys test) = right
second_below (plan.semi left right keys keeping) = right
second_below (plan.lookup p column attribute) = p
second_below (plan.filter p test) = p
second_below (plan.all_different p columns) = p
second_below (plan.project p outputs) = p
second_below (plan.distinct p) = p
second_below (plan.union left right) = right

-- the side across
abbrev pub other_side : Side → Side
other_side Left = Right
other_side Right = Left

-- the one at a side
abbrev pub input_at : Side → Plan → Plan
input_at Left p = first_below p
input_at Right p = second_below p

-- the operators from an operator of a plan down to the first one that has no operator below it, or two
abbrev pub chain : Plan → List Plan
chain plan.unit = plan.unit ∷ []
chain plan.nodes = plan.nodes ∷ []
chain (plan.rels types orientation) = plan.rels types orientation ∷ []
chain (plan.join left right keys) = plan.join left right keys ∷ []
chain (plan.outer left right keys test) = plan.outer left right keys test ∷ []
chain (plan.semi left right keys keeping) = plan.semi left right keys keeping ∷ []
chain (plan.lookup p column attribute) = plan.lookup p column attribute ∷ chain p
chain (plan.filter p test) = plan.filter p test ∷ chain p
chain (plan.all_different p columns) = plan.all_different p columns ∷ chain p
chain (plan.project p outputs) = plan.project p outputs ∷ chain p
chain (plan.distinct p) = plan.distinct p ∷ chain p
chain (plan.union left right) = plan.union left right ∷ []

-- an operator whose rows come in one step of the graph or of the rows of two inputs: a scan, or an operator that has no operator below it, or two
abbrev pub IsWhole : Plan → Type 0
IsWhole p = (is_scan p ≡ true) ⊎ (below_count p ≢ 1)

-- a chain is cut where such an operator stands, and no operator above that one is a scan
pub record IsCut (ps : List Plan) (place : ℕ) : Type 0 where
  pub within : place < length ps
  pub unscanned : All (λ p. is_scan p ≡ false) (take place ps)
  pub end : Plan
  pub rest : drop place ps ≡ chain end
  pub whole : IsWhole end
