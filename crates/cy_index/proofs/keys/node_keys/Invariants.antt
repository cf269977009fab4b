use Rattle.std.proofs.Common.{◌≡◌, take}
use Rattle.std.specs.List.{list_any}
use Rattle.cy_index.specs.declared.keys.Key.{Key}
use Rattle.cy_index.specs.internal.Under.{among, is_key_of_label}
use Rattle.cy_index.proofs.keys.node_keys.Given as goal

-- the keys by the labels so far
abbrev pub invariant-loop-label : goal.invariant-loop-label
invariant-loop-label l = (k : Key) → among k l.keys.items ≡ list_any (λ e. is_key_of_label l.chosen e.0 l.props k) (take l.label-index l.label-items)
