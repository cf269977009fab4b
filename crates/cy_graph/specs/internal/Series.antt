-- A series of values under rising numbers, with one change at a time: what its calls do, and what it keeps for them.
use Rattle.std.specs.Prelude.{◌≡◌, ℕ, ◌≤◌, ◌<◌, ◌⊎◌, List, [], ◌∷◌, ◌++◌, length, take, slice_get, Option, Some, IsSome}
use Rattle.std.specs.Option.{option_map, ForSome}
use Rattle.indexmap.specs.IndexMap.{set_value_at}
use Rattle.cy_graph.specs.declared.series.Start.{Start}
use Rattle.cy_graph.specs.Graph.{number_end}
use Rattle.cy_graph.specs.internal.Slots.{RiseFrom, live, value_under, slot_at, restored}
use Rattle.cy_graph.specs.Model.{Numbered, SeriesVersions}

module _ {V : Type 0} where
  -- the values in these slots, and the next number
  abbrev pub numbered_of : List (ℕ × Option V) → ℕ → Numbered V
  numbered_of slots next = record { entries = live slots; next = next }

  -- the slots when the change began: the first ones, with what was kept of their values
  abbrev pub slots_before : List (ℕ × Option V) → Start V → List (ℕ × Option V)
  slots_before slots start = restored start.before.entries (take start.slots slots)

  -- the series when the change began
  abbrev pub numbered_before : List (ℕ × Option V) → Start V → Numbered V
  numbered_before slots start = numbered_of (slots_before slots start) start.next

  abbrev pub series_versions : List (ℕ × Option V) → ℕ → Option (Start V) → SeriesVersions V
  series_versions slots next change = record { now = numbered_of slots next; was = option_map (numbered_before slots) change }

  -- the slots of the change's beginning are the first ones, their numbers below the next one of that time, and what was
  -- kept is of these slots
  pub record IsKeptBefore (slots : List (ℕ × Option V)) (start : Start V) : Type 0 where
    pub within : start.slots ≤ length slots
    pub rising : RiseFrom 1 start.next (take start.slots slots)
    pub held : (number : ℕ) → IsSome (value_under number start.before.entries) → IsSome (slot_at number (take start.slots slots))
    pub range : (1 ≤ start.next) × (start.next ≤ number_end)

  -- the numbers of the slots rise from 1 and stay below the next one, now as at the change's beginning
  pub record IsKept (slots : List (ℕ × Option V)) (next : ℕ) (change : Option (Start V)) : Type 0 where
    pub rising : RiseFrom 1 next slots
    pub range : (1 ≤ next) × (next ≤ number_end)
    pub was : ForSome change (IsKeptBefore slots)

  -- the start of a change with the same values kept
  pub record KeepsNothing (old new : Start V) : Type 0 where
    pub same : new ≡ record old { before = new.before }
    pub entries : new.before.entries ≡ old.before.entries

  -- the start of a change once the value in a slot may be changed: the value was kept, if it had to be, and nothing else
  pub record Keeps (slot number : ℕ) (value : V) (old new : Start V) : Type 0 where
    pub same : new ≡ record old { before = new.before }
    pub entries : (new.before.entries ≡ old.before.entries) ⊎ ((slot < old.slots) × (new.before.entries ≡ old.before.entries ++ (number, value) ∷ []))
    pub known : slot < old.slots → IsSome (value_under number new.before.entries)

  -- the value under a number is changed, or removed, in its slot, and was kept before if it had to be
  pub record Changes (number : ℕ) (change : V → Option V) (slots after : List (ℕ × Option V)) (old new : Start V) : Type 0 where
    pub slot : ℕ
    pub value : V
    pub there : slice_get slots slot ≡ Some (number, Some value)
    pub kept : Keeps slot number value old new
    pub written : after ≡ set_value_at slots slot (change value)

  -- the slots stay, and at most the value under a number is kept besides
  abbrev pub ChangesNothing : ℕ → List (ℕ × Option V) → List (ℕ × Option V) → Start V → Start V → Type 0
  ChangesNothing number slots after old new = ((after ≡ slots) × KeepsNothing old new) ⊎ Changes number (λ value. Some value) slots after old new
