-- A key of ORDER BY, as the code has it.
use Rattle.std.specs.Prelude.{ℕ, Option}
use Rattle.cy_trees.specs.Trees.{Key}
use Rattle.cy_trees.specs.TreeModels.{key_of}
use Rattle.cy_oneshot_projections.specs.declared.projection.SortKey as coded

-- the item that it repeats, if it repeats one, and the key
abbrev pub sort_key_of : coded.SortKey → Option ℕ × Key
sort_key_of s = (s.place, key_of s.key.now)
