-- Lists of rows with their counts (own).
use Rattle.std.specs.Prelude.{◌≡◌, ℕ, ◌<◌, ◌≤◌, List, if◌then◌else◌, sum_by}
use Rattle.std.specs.List.{All}
use Rattle.cy_values.specs.declared.rows.Cell.{Cell}
use Rattle.cy_values.specs.Bag.{weight_of}
use Rattle.cy_values.specs.Same.{is_row}
use Rattle.cy_network_memory.specs.Counts.{Counts}

-- each row stands once at most
abbrev pub AreOnce : List (List Cell × ℕ) → Type 0
AreOnce pairs = (row : List Cell) → sum_by (λ p. if is_row row p.0 then 1 else 0) pairs ≤ 1

-- a list of the rows that count: each of them once, with its count
pub record IsListing (of : Counts) (pairs : List (List Cell × ℕ)) : Type 0 where
  pub counts : (row : List Cell) → weight_of row pairs ≡ of row
  pub once : AreOnce pairs
  pub positive : All (λ p. 0 < p.1) pairs
