-- The slots of a series: under each number that was given out its value, or nothing once that was removed.
use Rattle.std.specs.Prelude.{ℕ, ◌+◌, ◌≤◌, ◌<◌, List, [], ◌∷◌, Option, None, Some}
use Rattle.std.specs.Ordering.{nat_cmp}
use Rattle.std.specs.FinMap.Entries as entries

module _ {V : Type 0} where
  -- the numbers strictly rise, each at least `low` and below `high`
  abbrev pub RiseFrom : ℕ → ℕ → List (ℕ × V) → Type 0
  RiseFrom low high [] = Unit {0}
  RiseFrom low high (e ∷ es) = (low ≤ e.0) × (e.0 < high) × RiseFrom (e.0 + 1) high es

  -- the values with what stands in one more slot before them
  abbrev pub with_slot : ℕ → Option V → List (ℕ × V) → List (ℕ × V)
  with_slot number None values = values
  with_slot number (Some value) values = (number, value) ∷ values

  -- the live values: those that the slots have, with their numbers
  abbrev pub live : List (ℕ × Option V) → List (ℕ × V)
  live [] = []
  live (e ∷ es) = with_slot e.0 e.1 (live es)

  -- the value under a number
  abbrev pub value_under : ℕ → List (ℕ × V) → Option V
  value_under = entries.find nat_cmp

  -- what stood in a slot: the value that was kept, or where none was, what stands there now
  abbrev pub as_it_was : Option V → Option V → Option V
  as_it_was None slot = slot
  as_it_was (Some value) slot = Some value

  -- the slots with the values that were kept back in theirs
  abbrev pub restored : List (ℕ × V) → List (ℕ × Option V) → List (ℕ × Option V)
  restored kept [] = []
  restored kept (e ∷ es) = (e.0, as_it_was (value_under e.0 kept) e.1) ∷ restored kept es

-- the slot of a number, if there is one
abbrev pub slot_at : {V : Type 0} → ℕ → List (ℕ × Option V) → Option (Option V)
slot_at = value_under
