-- The bytes of sources and sinks, where they are known (own).
use Rattle.std.specs.Prelude.{◌≡◌, ℕ, ◌≤◌, ◌<◌, List, [], ◌++◌, length, take, drop, Option, Some, None, option_map}

-- the known bytes, and then the text
abbrev pub appended : Option (List ℕ) → List ℕ → Option (List ℕ)
appended known text = option_map (λ bytes. bytes ++ text) known

-- what was known still is, with more after it, if anything
pub record Extends (before after : Option (List ℕ)) : Type 0 where
  pub more : List ℕ
  pub is : after ≡ appended before more

-- A read takes the front of the bytes that are left into the front of the piece, and leaves the rest of the piece.
-- It takes nothing into a piece that isn't empty only where nothing is left. Of bytes that aren't known nothing is said.
pub record MovesFront (left old_piece new_piece : List ℕ) (count : ℕ) : Type 0 where
  pub within : count ≤ length left
  pub piece : new_piece ≡ take count left ++ drop count old_piece
  pub end : count ≡ 0 → 0 < length old_piece → left ≡ []

abbrev pub TakesFront : Option (List ℕ) → Option (List ℕ) → List ℕ → List ℕ → ℕ → Type 0
TakesFront None after old_piece new_piece count = after ≡ None
TakesFront (Some left) after old_piece new_piece count = MovesFront left old_piece new_piece count × (after ≡ Some (drop count left))
