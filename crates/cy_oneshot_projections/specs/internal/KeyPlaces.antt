-- The places of items by the words of their trees.
use Rattle.std.specs.Prelude.{◌≡◌, ℕ, Bool, List}
use Rattle.std.specs.BTreeMap.{is_at}
use Rattle.std.specs.Cmp.Lexicographic.{slice_cmp}
use Rattle.std.specs.List.{position_from}
use Rattle.std.specs.Map.{lookup}
use Rattle.std.specs.Ordering.{nat_cmp}
use Rattle.std.specs.Str.{bytes_eq}
use Rattle.std.specs.declared.alloc.Global.{Global}
use Rattle.std.specs.declared.vec.Vec.{Vec}
use Rattle.cy_trees.specs.Trees.{Item}
use Rattle.cy_scope_kinds.specs.internal.TreeWords.{words_of}

-- the test for a key of the words
abbrev pub has : List ℕ → Vec ℕ Global → Bool
has words = is_at (λ k. slice_cmp nat_cmp words k.items)

-- an item's tree has the words
abbrev pub has_words : List ℕ → Item → Bool
has_words words i = bytes_eq words (words_of i.expression)

-- each words have the place of the first item whose tree has them, where the items' places begin at a number
abbrev pub AreFirst : List (Vec ℕ Global × ℕ) → List Item → ℕ → Type 0
AreFirst entries items from = (words : List ℕ) → lookup (has words) entries ≡ position_from (has_words words) from items
