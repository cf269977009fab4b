-- The relationships at a node, by rising number, with some that were removed.
use Rattle.std.specs.Prelude.{◌≡◌, ◌⊎◌, ℕ, ◌-◌, Bool, eqb, if◌then◌else◌, filter, is_some, length, take, List, [], ◌∷◌, Option, None, Some, nat_eq}
use Rattle.indexmap.specs.IndexMap.{IndexMap, get}
use Rattle.cy_values.specs.declared.numbers.RelId.{RelId}
use Rattle.cy_graph.specs.declared.adjacency.RelList.{RelList}
use Rattle.cy_graph.specs.declared.adjacency.Step.{Step}
use Rattle.cy_graph.specs.declared.adjacency.Step.TheVariants.{Added, Removed}
use Rattle.cy_graph.specs.internal.Slots.{value_under}

-- the numbers in a list, and how many it has room for, where there is one
abbrev pub ids_in : Option RelList → List RelId
ids_in None = []
ids_in (Some list) = list.ids.items

abbrev pub room_in : Option RelList → ℕ
room_in None = 0
room_in (Some list) = list.ids.capacity

module _ {S : Type 0} (node : ℕ) (lists : IndexMap ℕ RelList S) where
  abbrev pub ids_at : List RelId
  ids_at = ids_in (get nat_eq lists node)

  abbrev pub room_at : ℕ
  room_at = room_in (get nat_eq lists node)

module _ {V : Type 0} (values : List (ℕ × V)) where
  -- whether there is a value under the number
  abbrev pub is_live : RelId → Bool
  is_live id = is_some (value_under id.0 values)

  -- a list is as it was, or without those that have no value
  abbrev pub IsCompacted : List RelId → List RelId → Type 0
  IsCompacted old new = (new ≡ old) ⊎ (new ≡ filter is_live old)

-- the list without its last number
abbrev pub without_last : List RelId → List RelId
without_last ids = take (length ids - 1) ids

-- the numbers at each node before a step
abbrev pub before_step : Step → (ℕ → List RelId) → ℕ → List RelId
before_step (Added node) ids m = if eqb node m then without_last (ids m) else ids m
before_step (Removed node) ids m = ids m

-- and before several, the latest first
abbrev pub undone : List Step → (ℕ → List RelId) → ℕ → List RelId
undone [] ids = ids
undone (s ∷ earlier) ids = undone earlier (before_step s ids)
