-- Where look-ups stand: those that are wanted stand in columns of their own, one after another.
use Rattle.std.specs.Prelude.{ℕ, ◌+◌, ◌==◌, Bool, true, false, ◌&&◌, List, [], ◌∷◌, ◌++◌, if◌then◌else◌}
use Rattle.std.specs.List.{list_any}
use Rattle.std.specs.Str.{bytes_eq}
use Rattle.cy_planner_algebra.specs.declared.operators.Attribute.{Attribute}
use Rattle.cy_planner_algebra.specs.declared.operators.Attribute.TheVariants.{Property, RelType, Labels}
use Rattle.cy_planner_rows.specs.declared.places.Wanted.{Wanted}

abbrev pub same_attribute : Attribute → Attribute → Bool
same_attribute (Property key) (Property other) = bytes_eq key other
same_attribute RelType RelType = true
same_attribute Labels Labels = true
same_attribute _ _ = false

-- a look-up is the one of an attribute of the entity in a column
abbrev pub is_of : ℕ → Attribute → Wanted → Bool
is_of column attribute w = w.column == column && same_attribute w.attribute attribute

-- the column of the first such one, where they stand from a column on; the column after them, if there is none
abbrev pub place : ℕ → List Wanted → ℕ → Attribute → ℕ
place first [] column attribute = first
place first (w ∷ others) column attribute = if is_of column attribute w then first else place (first + 1) others column attribute

-- what is wanted, with one look-up more unless it is there
abbrev pub added : List Wanted → Wanted → List Wanted
added wanted w = if list_any (is_of w.column w.attribute) wanted then wanted else wanted ++ w ∷ []
