use Rattle.std.proofs.Common.{◌≡◌, ◌++◌}
use Rattle.cy_index.specs.internal.Entries.{present}
use Rattle.cy_index.specs.internal.Numbers.{ids_of}
use Rattle.cy_index.proofs.posting_list.ids_in.Given as goal

-- the nodes so far, and those that are left
abbrev pub invariant-loop-number : goal.invariant-loop-number
invariant-loop-number l = l.ids.items ++ ids_of (present l.number-iterator) ≡ ids_of (present l.map.entries)
