-- Finite maps from texts, as lists of entries whose keys strictly rise. So each map has one form, and two maps
-- are the same where their lists are. (own)
use Rattle.std.specs.Prelude.{ℕ, not, List, Option, Bool, false}
use Rattle.std.specs.Option.{option_map_or}
use Rattle.std.specs.declared.cmp.Ordering.{Ordering}
use Rattle.std.specs.Ordering.{nat_cmp, eq_by_cmp}
use Rattle.std.specs.Cmp.Lexicographic.{slice_cmp}
use Rattle.std.specs.FinMap.Entries as entries
use Rattle.cy_values.specs.declared.scalars.Value.{Value}
use Rattle.cy_values.specs.Compare.{equality}
use Rattle.cy_values.specs.Truth.{is_yes}

-- texts by their bytes
abbrev pub text_order : List ℕ → List ℕ → Ordering
text_order = slice_cmp nat_cmp

module _ {V : Type 0} where
  -- whether the keys strictly rise
  abbrev pub rises : List (List ℕ × V) → Bool
  rises = entries.is_sorted text_order

  -- the value at a key
  abbrev pub value_at : List ℕ → List (List ℕ × V) → Option V
  value_at = entries.find text_order

  -- the map with the value at the key, and all else as it was
  abbrev pub with_value : List ℕ → V → List (List ℕ × V) → List (List ℕ × V)
  with_value = entries.put text_order

  -- the map with nothing at the key, and all else as it was
  abbrev pub without : List ℕ → List (List ℕ × V) → List (List ℕ × V)
  without key = entries.where_key text_order (λ k. not (eq_by_cmp text_order key k))

-- whether the value at the key is equal to this one, by `=` (openCypher 9; lists: own)
abbrev pub is_value_at : List ℕ → Value → List (List ℕ × Value) → Bool
is_value_at key value props = option_map_or (λ stored. is_yes (equality stored value)) (value_at key props) false
