-- What differs between two versions of a series.
use Rattle.std.specs.Prelude.{◌≡◌, ◌≢◌, ℕ, Bool, false, not, List, [], ◌∷◌, map, filter, Option, None, Some}
use Rattle.std.specs.List.{AllByRecursion}
use Rattle.std.specs.Option.{option_map_or}
use Rattle.std.specs.Prelude.{◌⊎◌}
use Rattle.cy_graph.specs.internal.Slots.{value_under, live}
use Rattle.cy_graph.specs.Model.{Numbered}

-- an element of a list
abbrev pub IsIn : {X : Type 0} → X → List X → Type 0
IsIn x [] = ⊥
IsIn x (y ∷ ys) = (y ≡ x) ⊎ IsIn x ys

module _ {V : Type 0} where
  -- the number differs between the two versions, and had this value in the first
  abbrev pub IsDifference : Numbered V → Numbered V → ℕ × Option V → Type 0
  IsDifference before now e = (e.1 ≡ value_under e.0 before.entries) × (value_under e.0 before.entries ≢ value_under e.0 now.entries)

  -- each number differs from those after it
  abbrev pub AreNumbersApart : List (ℕ × Option V) → Type 0
  AreNumbersApart [] = Unit {0}
  AreNumbersApart (e ∷ es) = AllByRecursion (λ (f : ℕ × Option V). e.0 ≢ f.0) es × AreNumbersApart es

  -- these are exactly the numbers that differ, each once, with their values in the first version
  pub record AreDifferences (before now : Numbered V) (found : List (ℕ × Option V)) : Type 0 where
    pub once : AreNumbersApart found
    pub differ : (e : ℕ × Option V) → IsIn e found → IsDifference before now e
    pub all : (number : ℕ) → value_under number before.entries ≢ value_under number now.entries → IsIn (number, value_under number before.entries) found

  -- the number has this very value
  abbrev pub has_still : (V → V → Bool) → Numbered V → ℕ × V → Bool
  has_still eq now e = option_map_or (λ value. eq value e.1) (value_under e.0 now.entries) false

  -- a value that was kept
  abbrev pub was_value : ℕ × V → ℕ × Option V
  was_value e = (e.0, Some e.1)

  -- the values that were kept and are others now
  abbrev pub changed_of : (V → V → Bool) → Numbered V → List (ℕ × V) → List (ℕ × Option V)
  changed_of eq now kept = map was_value (filter (λ e. not (has_still eq now e)) kept)

  -- a value that was not there
  abbrev pub was_none : ℕ × V → ℕ × Option V
  was_none e = (e.0, None)

  -- the values in new slots
  abbrev pub added_of : List (ℕ × Option V) → List (ℕ × Option V)
  added_of slots = map was_none (live slots)
