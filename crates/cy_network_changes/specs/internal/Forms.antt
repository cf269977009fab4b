-- Operators of a plan by their form: what stands below them, and what they are told.
use Rattle.std.specs.Prelude.{◌≡◌, ℕ, List}
use Rattle.cy_trees.specs.Trees.{Expression}
use Rattle.cy_planner_algebra.specs.declared.operators.Attribute.{Attribute}
use Rattle.cy_planner_algebra.specs.declared.operators.Keeping.{Keeping}
use Rattle.cy_planner_algebra.specs.declared.operators.KeyColumns.{KeyColumns}
use Rattle.cy_planner_algebra.specs.Plans as plan
use Rattle.cy_planner_algebra.specs.Plans.{Output, Plan}
use Rattle.cy_network_parts.specs.Parts.{first_below, second_below}

-- a join of two operators by these keys
abbrev pub IsJoin : Plan → List KeyColumns → Type 0
IsJoin p keys = p ≡ plan.join (first_below p) (second_below p) keys

-- an outer join of two operators by these keys, whose pairs pass this test
abbrev pub IsOuter : Plan → List KeyColumns → Expression → Type 0
IsOuter p keys test = p ≡ plan.outer (first_below p) (second_below p) keys test

-- a semi join of two operators by these keys, which keeps the rows that have a partner, or those that have none
abbrev pub IsSemi : Plan → List KeyColumns → Keeping → Type 0
IsSemi p keys keeping = p ≡ plan.semi (first_below p) (second_below p) keys keeping

-- a union of two operators
abbrev pub IsUnion : Plan → Type 0
IsUnion p = p ≡ plan.union (first_below p) (second_below p)

-- a look-up of this attribute of what stands in this column
abbrev pub IsLookup : Plan → ℕ → Attribute → Type 0
IsLookup p column attribute = p ≡ plan.lookup (first_below p) column attribute

-- a projection that makes these columns
abbrev pub IsProject : Plan → List Output → Type 0
IsProject p outputs = p ≡ plan.project (first_below p) outputs
