-- Look-ups that are wanted, each once, and where each of them stands. (own)
use Rattle.std.specs.Prelude.{◌≡◌, ℕ, Bool, List, [], ◌∷◌}
use Rattle.std.specs.BTreeMap.{is_at}
use Rattle.std.specs.Cmp.Lexicographic.{slice_cmp}
use Rattle.std.specs.List.{position_from}
use Rattle.std.specs.Map.{lookup}
use Rattle.std.specs.Ordering.{nat_cmp}
use Rattle.std.specs.Str.{bytes_eq}
use Rattle.std.specs.declared.alloc.Global.{Global}
use Rattle.std.specs.declared.cmp.Ordering.{Ordering}
use Rattle.std.specs.declared.vec.Vec.{Vec}
use Rattle.cy_planner_algebra.specs.declared.operators.Attribute.{Attribute}
use Rattle.cy_planner_algebra.specs.declared.operators.Attribute.TheVariants.{Property, RelType, Labels}
use Rattle.cy_planner_rows.specs.declared.places.Wanted.{Wanted}

-- the words of a look-up: its column, and those of its attribute
abbrev pub attribute_words : Attribute → List ℕ
attribute_words (Property key) = 0 ∷ key
attribute_words RelType = 1 ∷ []
attribute_words Labels = 2 ∷ []

abbrev pub words_of : ℕ → Attribute → List ℕ
words_of column attribute = column ∷ attribute_words attribute

abbrev pub has_words : List ℕ → Wanted → Bool
has_words words w = bytes_eq words (words_of w.column w.attribute)

-- the test for a key of the words
abbrev pub has : List ℕ → Vec ℕ Global → Bool
has words = is_at (λ k. slice_cmp nat_cmp words k.items)

-- keys are ordered by their words
abbrev pub by_items : Vec ℕ Global → Vec ℕ Global → Ordering
by_items k l = slice_cmp nat_cmp k.items l.items

-- the words of each look-up have its place, and no others have one
abbrev pub ArePlaced : List (Vec ℕ Global × ℕ) → List Wanted → Type 0
ArePlaced entries wanted = (words : List ℕ) → lookup (has words) entries ≡ position_from (has_words words) 0 wanted
