-- How often each row counts in a map from rows to counts, and after some counts were written over it. (own)
use Rattle.std.specs.Prelude.{ℕ, ◌<◌, ⊤, List, [], ◌∷◌, Option, None, Some, unwrap_or}
use Rattle.std.specs.Map.{lookup}
use Rattle.cy_values.specs.declared.rows.Cell.{Cell}
use Rattle.cy_values.specs.Same.{is_row}
use Rattle.cy_network_memory.specs.Counts.{Counts, with_count}

-- what a row counts in a map: 0 where it isn't there
abbrev pub counted : List (List Cell × ℕ) → Counts
counted entries row = unwrap_or (lookup (is_row row) entries) 0

-- the counts once those of some rows have been written over them, one after another
abbrev pub written : List (List Cell × ℕ) → Counts → Counts
written [] before = before
written (e ∷ next) before = written next (with_count e.0 e.1 before)

-- a count, if there is one, isn't 0
abbrev pub IsPositive : Option ℕ → Type 0
IsPositive None = ⊤
IsPositive (Some count) = 0 < count

-- no row that is in the map counts 0
abbrev pub ArePositive : List (List Cell × ℕ) → Type 0
ArePositive entries = (row : List Cell) → IsPositive (lookup (is_row row) entries)
