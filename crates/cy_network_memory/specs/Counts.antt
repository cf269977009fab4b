-- How many times each row counts, and the key of a row (own).
use Rattle.std.specs.Prelude.{ℕ, ℤ, pos, ◌+ℤ◌, unsigned_abs, ◌-◌, ◌^◌, Bool, List, if◌then◌else◌, filter_map, slice_get}
use Rattle.cy_values.specs.declared.rows.Cell.{Cell}
use Rattle.cy_values.specs.Same.{is_row}

-- how many times each row counts: 0 where it isn't there
abbrev pub Counts : Type 0
Counts = List Cell → ℕ

-- no row is there
abbrev pub no_rows : Counts
no_rows row = 0

-- the most that a row may count
abbrev pub greatest_count : ℕ
greatest_count = 2 ^ 62 - 1

-- the counts with another one for a row
abbrev pub with_count : List Cell → ℕ → Counts → Counts
with_count row count counts other = if is_row row other then count else counts other

-- a count after a change by a number that doesn't take it below 0
abbrev pub changed : ℤ → ℕ → ℕ
changed change count = unsigned_abs (pos count +ℤ change)

-- the key of a row: its cells in these columns, in their order
abbrev pub key_cells : List ℕ → List Cell → List Cell
key_cells columns row = filter_map (slice_get row) columns
