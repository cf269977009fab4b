-- Which values can be stored: no null, and no list with null in it. (openCypher 9, property types; lists of several types: own)
use Rattle.std.specs.Prelude.{ℕ, Bool, true, false, not, List, IsTrue}
use Rattle.std.specs.List.{list_all}
use Rattle.cy_values.specs.declared.scalars.Value.{Value}
use Rattle.cy_values.specs.declared.scalars.Value.TheVariants as value
use Rattle.cy_values.specs.Compare.{is_null, value_in}

abbrev pub is_storable : Value → Bool
is_storable value.Null = false
is_storable (value.List elements) = list_all (λ e. not (is_null (value_in e))) elements
is_storable _ = true

-- each value of these properties can be stored
abbrev pub IsStorable : List (List ℕ × Value) → Type 0
IsStorable props = IsTrue (list_all (λ e. is_storable e.1) props)
