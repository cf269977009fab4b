-- Numbers with their hashes (own).
use Rattle.std.specs.Prelude.{◌≡◌, ℕ, zero, suc, ◌+◌, ◌-◌, Bool, false, List, Option, None, Some, if◌then◌else◌, length, nat_eq, nat_lt, slice_get}
use Rattle.std.specs.Option.{option_map_or}

-- the hashes of the numbers from 0 up, and for how many more of them there is room
pub record Hashes : Type 0 where
  pub hashes : List ℕ
  pub room : ℕ

-- the number has this hash
abbrev pub has_hash : List ℕ → ℕ → ℕ → Bool
has_hash hashes hash number = option_map_or (nat_eq hash) (slice_get hashes number) false

-- the greatest number below a bound that meets a test
abbrev pub last_below : (ℕ → Bool) → ℕ → Option ℕ
last_below test zero = None
last_below test (suc number) = if test number then Some number else last_below test number

-- The hashes once one of the numbers went and the last one became this number.
abbrev pub IsFilled : {X : Type 0} → ℕ → List X → List X → Type 0
IsFilled place old new = (i : ℕ) → slice_get new i ≡ (if nat_lt (i + 1) (length old) then slice_get old (if nat_eq place i then length old - 1 else i) else None)
