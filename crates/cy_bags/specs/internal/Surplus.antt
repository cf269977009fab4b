-- The rows that count more than among others.
use Rattle.std.specs.Prelude.{ℕ, ◌-◌, nat_lt, List, [], ◌∷◌, if◌then◌else◌}
use Rattle.cy_values.specs.declared.rows.Cell.{Cell}
use Rattle.cy_values.specs.Bag.{weight_of}

abbrev pub surplus_of : List (List Cell × ℕ) → List (List Cell × ℕ) → List (List Cell × ℕ)
surplus_of [] less = []
surplus_of (p ∷ more) less =
    if nat_lt (weight_of p.0 less) p.1 then (p.0, p.1 - weight_of p.0 less) ∷ surplus_of more less else surplus_of more less
