-- The entries of a posting list.
use Rattle.std.specs.Prelude.{ℕ, Bool, cond, List, [], ◌∷◌, Option, None, Some}
use Rattle.std.specs.BTreeMap.{is_at}
use Rattle.std.specs.Map.{remove_entry, set_value}
use Rattle.std.specs.Ordering.{nat_cmp}
use Rattle.cy_index.specs.declared.posting_list.Numbers.{Numbers}
use Rattle.cy_index.specs.declared.posting_list.Numbers.TheVariants as numbers

-- numbers by rising number, each with whether it is present
abbrev pub Entries : Type 0
Entries = List (ℕ × Bool)

-- the present ones
abbrev pub present : Entries → List ℕ
present [] = []
present (e ∷ es) = cond e.1 (e.0 ∷ present es) (present es)

-- the entries with that of a number as it was, or without one
abbrev pub restored : ℕ → Option Bool → Entries → Entries
restored n None es = remove_entry (is_at (nat_cmp n)) es
restored n (Some b) es = set_value (is_at (nat_cmp n)) es b

-- what a posting list is seen as
abbrev pub entries_of : Numbers → Entries
entries_of (numbers.One n b) = (n, b) ∷ []
entries_of (numbers.Many map) = map.entries
