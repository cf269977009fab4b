-- The difference of two bags of rows, when there is one, and their sum (own).
use Rattle.std.specs.Prelude.{◌≡◌, ℕ, ◌+◌, ◌-◌, Bool, true, false, ◌&&◌, List, [], ◌∷◌}
use Rattle.cy_values.specs.declared.rows.Cell.{Cell}
use Rattle.cy_values.specs.Bag.{IsCanonical, IsSurplus, weight_of}
use Rattle.cy_bags.specs.declared.changes.Change.{Change}

-- removed is the bag before without the bag after, and added is the bag after without the bag before; so no row is in both
pub record IsDifference (before after : List (List Cell)) (change : Change) : Type 0 where
  pub removed : IsSurplus before after change.removed
  pub added : IsSurplus after before change.added

-- the surplus of rows over others, both with their counts: each row counts by how much more it counts among the first
pub record IsCountedSurplus (more less pairs : List (List Cell × ℕ)) : Type 0 where
  pub counts : (row : List Cell) → weight_of row pairs ≡ weight_of row more - weight_of row less
  pub canonical : IsCanonical pairs

abbrev pub is_nil : {A : Type 0} → List A → Bool
is_nil [] = true
is_nil (x ∷ xs) = false

-- no row goes, and none comes
abbrev pub is_nothing : Change → Bool
is_nothing change = is_nil change.removed && is_nil change.added

-- the sum of two bags, both with their counts
pub record IsCountedSum (left right pairs : List (List Cell × ℕ)) : Type 0 where
  pub counts : (row : List Cell) → weight_of row pairs ≡ weight_of row left + weight_of row right
  pub canonical : IsCanonical pairs
