-- A graph that answers nothing: no property, no label, and an empty type.
use Rattle.std.specs.Prelude.{[], None}
use Rattle.cy_expr.specs.Lookups.{Lookups}

abbrev pub empty : Lookups
empty = record { property_of = λ e key. None; labels_of = λ n. []; type_of = λ r. [] }
