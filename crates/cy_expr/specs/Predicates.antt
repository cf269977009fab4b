-- Tests of texts. (openCypher 9, String operators) A text is the list of its bytes in UTF-8, in which one text stands within
-- another exactly where its characters do.
use Rattle.std.specs.Prelude.{Bool, ◌||◌, ℕ, nat_eq, List, [], ◌∷◌}
use Rattle.std.specs.List.{starts_with, ends_with}
use Rattle.cy_values.specs.declared.scalars.Value.{Value}
use Rattle.cy_values.specs.declared.scalars.Value.TheVariants as value
use Rattle.cy_values.specs.declared.truth.Truth.{Truth}
use Rattle.cy_values.specs.declared.truth.Truth.TheVariants.{Unknown}
use Rattle.cy_values.specs.Truth.{known}

-- a test of two texts, null unless both are texts
abbrev pub of_texts : (List ℕ → List ℕ → Bool) → Value → Value → Truth
of_texts test (value.Text s) (value.Text t) = known (test s t)
of_texts test x y = Unknown

-- some end of s, s itself and the empty one among them, starts with t
abbrev pub has_within : List ℕ → List ℕ → Bool
has_within [] t = starts_with nat_eq [] t
has_within (c ∷ cs) t = starts_with nat_eq (c ∷ cs) t || has_within cs t

-- `STARTS WITH`, `ENDS WITH` and `CONTAINS`
abbrev pub text_starts : Value → Value → Truth
text_starts = of_texts (starts_with nat_eq)

abbrev pub text_ends : Value → Value → Truth
text_ends = of_texts (ends_with nat_eq)

abbrev pub text_contains : Value → Value → Truth
text_contains = of_texts has_within
