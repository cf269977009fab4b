-- Look-ups that go down: below a projection, and on the sides of a join. (own)
use Rattle.std.specs.Prelude.{◌≡◌, ℕ, ◌+◌, ◌-◌, ◌<◌, Bool, List, [], ◌∷◌, ◌++◌, length, map, Option, Some, ◌≤◌, nat_lt, slice_get, option_map, if◌then◌else◌}
use Rattle.std.specs.List.{AllByRecursion, range_with_len}
use Rattle.std.specs.Option.{option_and_then}
use Rattle.cy_planner_algebra.specs.declared.operators.Attribute.{Attribute}
use Rattle.cy_planner_algebra.specs.Plans.{Plan, Output, width}
use Rattle.cy_planner_algebra.specs.WellFormed.{IsWellFormed, greatest_width}
use Rattle.cy_planner_rows.specs.declared.places.Wanted.{Wanted}
use Rattle.cy_planner_rows.specs.Columns.{column_output}
use Rattle.cy_planner_rows.specs.Columns.{taken_column}

-- a look-up of an attribute in a column
abbrev pub lookup_at : Attribute → ℕ → Wanted
lookup_at attribute column = record { column = column; attribute = attribute }

-- the look-up below a projection that one above it is, where its column is one that the projection takes over
abbrev pub moved : List Output → Wanted → Option Wanted
moved outputs w = option_map (lookup_at w.attribute) (option_and_then taken_column (slice_get outputs w.column))

-- the outputs of a projection, and after them this many columns
abbrev pub with_columns : List Output → ℕ → ℕ → List Output
with_columns outputs first count = outputs ++ map column_output (range_with_len first count)

-- look-ups in the columns of the left input, and in those of the right one
abbrev pub is_left : ℕ → Wanted → Bool
is_left width w = nat_lt w.column width

abbrev pub lefts : ℕ → List Wanted → List Wanted
lefts width [] = []
lefts width (w ∷ ws) = if is_left width w then w ∷ lefts width ws else lefts width ws

abbrev pub rights : ℕ → List Wanted → List Wanted
rights width [] = []
rights width (w ∷ ws) = if is_left width w then rights width ws else lookup_at w.attribute (w.column - width) ∷ rights width ws

-- where they stand, those of the left input from a column on, and those of the right one
abbrev pub places : ℕ → ℕ → ℕ → List Wanted → List ℕ
places width left right [] = []
places width left right (w ∷ ws) = if is_left width w then left ∷ places width (left + 1) right ws else right ∷ places width left (right + 1) ws

-- the columns of both inputs, where this many look-ups stand on the left one
abbrev pub both_columns : ℕ → ℕ → ℕ → List ℕ
both_columns left right count = range_with_len 0 left ++ range_with_len (left + count) right

-- these, and the look-ups after them in their order
abbrev pub joined_columns : ℕ → ℕ → List Wanted → List ℕ
joined_columns left right ws =
    let count = length (lefts left ws) in
    both_columns left right count ++ places left left (left + count + right) ws

-- look-ups below a projection, in place of those above it, with room for them
abbrev pub AreMoved : List Output → ℕ → List Wanted → List Wanted → Type 0
AreMoved outputs count ws ms = (map (moved outputs) ws ≡ map Some ms) × (count + length ws ≤ greatest_width)

-- look-ups on a join of two plans, each in a column of the pairs, with room for them
pub record CanBeSplit (p q : Plan) (ws : List Wanted) : Type 0 where
  pub left : IsWellFormed p
  pub right : IsWellFormed q
  pub inside : AllByRecursion (λ w. w.column < width p + width q) ws
  pub room : width p + width q + length ws ≤ greatest_width
