-- Chains of numbers: those at one place, the greatest first.
use Rattle.std.specs.Prelude.{◌≡◌, ℕ, zero, suc, ◌-◌, ◌^◌, ◌%◌, ◌<◌, ◌≤◌, Bool, false, List, map, Option, None, Some, IfSome, if◌then◌else◌, length, min, nat_eq, nat_lt, option_map, slice_get}
use Rattle.std.specs.Option.{option_map_or}
use Rattle.cy_network_columns.specs.declared.chains.Link.{Link}

-- the hashes of links
abbrev pub hashes_of : List Link → List ℕ
hashes_of links = map (λ l. l.hash) links

-- the number is at this place
abbrev pub is_at : (ℕ → Option ℕ) → ℕ → ℕ → Bool
is_at at place number = option_map_or (nat_eq place) (at number) false

-- one more than the greatest number below a bound that meets a test, or 0 where none does
abbrev pub rank_below : (ℕ → Bool) → ℕ → ℕ
rank_below test zero = zero
rank_below test (suc number) = if test number then suc number else rank_below test number

-- the place of each number, by its hash
abbrev pub placed_at : ℕ → List ℕ → ℕ → Option ℕ
placed_at count hashes number = option_map (λ h. h % count) (slice_get hashes number)

-- without a number, with it at a place, and with the numbers below one alone
abbrev pub without : ℕ → (ℕ → Option ℕ) → ℕ → Option ℕ
without number at i = if nat_eq number i then None else at i

abbrev pub with_place : ℕ → ℕ → (ℕ → Option ℕ) → ℕ → Option ℕ
with_place number place at i = if nat_eq number i then Some place else at i

abbrev pub those_below : ℕ → (ℕ → Option ℕ) → ℕ → Option ℕ
those_below bound at i = if nat_lt i bound then at i else None

-- no link leads up
abbrev pub Descend : List Link → Type 0
Descend links = (i : ℕ) → IfSome (slice_get links i) (λ l. l.below ≤ i)

-- the link of each number that has a place leads to the greatest one below it there
abbrev pub AreChained : (ℕ → Option ℕ) → List Link → Type 0
AreChained at links = (i place : ℕ) → at i ≡ Some place → option_map (λ l. l.below) (slice_get links i) ≡ Some (rank_below (is_at at place) i)

-- each place leads to its greatest number, and each number to the one below it
pub record IsLinked (at : ℕ → Option ℕ) (heads : List ℕ) (links : List Link) : Type 0 where
  pub greatest : (place : ℕ) → place < length heads → slice_get heads place ≡ Some (rank_below (is_at at place) (length links))
  pub chained : AreChained at links
  pub placed : (i place : ℕ) → at i ≡ Some place → place < length heads
  pub descend : Descend links

-- the numbers are linked at the places of their hashes, and there aren't too many
pub record IsIndex (heads : List ℕ) (links : List Link) : Type 0 where
  pub linked : IsLinked (placed_at (length heads) (hashes_of links)) heads links
  pub small : length links < 2 ^ 32

-- for how many more numbers there is room, by the room for links and the number of places
abbrev pub room_in : ℕ → List ℕ → List Link → ℕ
room_in capacity heads links = min (min capacity (2 ^ 32 - 1)) (length heads) - length links
