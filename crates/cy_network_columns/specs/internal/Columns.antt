-- Rows, column by column.
use Rattle.std.specs.Prelude.{◌≡◌, ℕ, zero, suc, ◌+◌, ◌<◌, ◌≤◌, List, [], ◌∷◌, ◌++◌, Option, None, Some, IfSome, if◌then◌else◌, filter_map, length, nat_eq, nat_lt, option_map, slice_get, take}
use Rattle.std.specs.List.{list_all, swap_remove}
use Rattle.std.specs.Option.{option_and_then}
use Rattle.cy_values.specs.declared.rows.Cell.{Cell}

-- the cell of a row in a column, if it has one
abbrev pub cell_in : ℕ → List (Option Cell) → Option Cell
cell_in number column = option_and_then (λ c. c) (slice_get column number)

-- the cell of a row in the column at a place
abbrev pub cell_at : List (List (Option Cell)) → ℕ → ℕ → Option Cell
cell_at columns place number = option_and_then (cell_in number) (slice_get columns place)

-- a row: its cells, from the left
abbrev pub row_in : List (List (Option Cell)) → ℕ → List Cell
row_in columns number = filter_map (cell_in number) columns

-- the first rows
abbrev pub rows_below : List (List (Option Cell)) → ℕ → List (List Cell)
rows_below columns zero = []
rows_below columns (suc number) = rows_below columns number ++ row_in columns number ∷ []

-- the row after so many, once it was written into each column
abbrev pub next_in : List (List (Option Cell)) → ℕ → Option (List Cell)
next_in columns count = if list_all (λ column. nat_eq (length column) (count + 1)) columns then Some (row_in columns count) else None

-- a row has no cell past a column in which it has none
abbrev pub EndsOnce : List (List (Option Cell)) → ℕ → Type 0
EndsOnce columns number = (place : ℕ) → cell_at columns place number ≡ None → cell_at columns (suc place) number ≡ None

-- the columns hold so many rows, and perhaps cells of the next one
pub record AreKept (columns : List (List (Option Cell))) (count : ℕ) : Type 0 where
  pub long : (place : ℕ) → IfSome (slice_get columns place) (λ column. (count ≤ length column) × (length column ≤ count + 1))
  pub once : (number : ℕ) → EndsOnce columns number

-- a row's cells were added to the first columns
pub record FilledTo (k : ℕ) (cells : List Cell) (old new : List (List (Option Cell))) : Type 0 where
  pub as_many : length new ≡ length old
  pub filled : (place : ℕ) → place < k → slice_get new place ≡ option_map (λ column. column ++ slice_get cells place ∷ []) (slice_get old place)
  pub left : (place : ℕ) → k ≤ place → slice_get new place ≡ slice_get old place

-- a column without the cells past the rows, and without one row, whose number the last one takes
abbrev pub removed : ℕ → ℕ → List (Option Cell) → List (Option Cell)
removed number count column = if nat_lt number (length (take count column)) then swap_remove (take count column) number None else take count column
