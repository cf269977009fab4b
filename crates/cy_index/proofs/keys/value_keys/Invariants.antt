use Rattle.std.proofs.Common.{◌≡◌, ◌||◌, take}
use Rattle.std.specs.Option.{option_copied}
use Rattle.cy_index.specs.declared.keys.Key.{Key}
use Rattle.cy_index.specs.internal.Under.{among, is_prop, by_value}
use Rattle.cy_index.proofs.keys.value_keys.Given as goal

-- the values at the places so far are among the keys
abbrev pub invariant-loop-place : goal.invariant-loop-place
invariant-loop-place l = (k : Key) → among k l.keys.items ≡ (among k l.initial.keys.items || is_prop (take l.place l.chosen) (by_value l.labels l.key (option_copied l.value)) k)
