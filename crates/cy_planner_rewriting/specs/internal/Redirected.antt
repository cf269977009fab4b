-- Look-ups on a join, in other columns in which the same stands. (own)
use Rattle.std.specs.Prelude.{◌≡◌, ◌⊎◌, ℕ, ◌+◌, ◌==◌, List, [], ◌∷◌, if◌then◌else◌}
use Rattle.std.specs.List.{Contains}
use Rattle.cy_planner_algebra.specs.declared.operators.KeyColumns.{KeyColumns}
use Rattle.cy_planner_rows.specs.declared.places.Wanted.{Wanted}
use Rattle.cy_planner_rewriting.specs.declared.redirects.Redirect.{Redirect}
use Rattle.cy_planner_rewriting.specs.internal.Lowered.{lookup_at}

-- the columns of a key, where the left input has this many columns, in the one order or the other
abbrev pub IsRedirect : List KeyColumns → ℕ → Redirect → Type 0
IsRedirect keys width r =
    (key : KeyColumns) × Contains keys key × (((r.from ≡ key.left) × (r.to ≡ width + key.right)) ⊎ ((r.from ≡ width + key.right) × (r.to ≡ key.left)))

-- the other column; itself, where there is none
abbrev pub redirect : List Redirect → ℕ → ℕ
redirect [] column = column
redirect (r ∷ redirects) column = if r.from == column then r.to else redirect redirects column

abbrev pub redirected : List Redirect → Wanted → Wanted
redirected redirects w = lookup_at w.attribute (redirect redirects w.column)
