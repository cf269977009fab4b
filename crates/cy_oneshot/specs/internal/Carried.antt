-- What is needed, step by step.
use Rattle.std.specs.Prelude.{◌≡◌, ℕ, Bool, true, List, length}
use Rattle.cy_oneshot.specs.Carried.{is_needed}

-- what was needed still is, and no more is known
abbrev pub StillNeeded : List Bool → List Bool → Type 0
StillNeeded needed after = ((column : ℕ) → is_needed needed column ≡ true → is_needed after column ≡ true) × (length after ≡ length needed)
