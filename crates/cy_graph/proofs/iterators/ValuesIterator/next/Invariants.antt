use Rattle.std.proofs.Common.{◌≡◌, length}
use Rattle.cy_graph.specs.internal.Slots.{live}
use Rattle.cy_graph.proofs.iterators.ValuesIterator.next.Given as goal

-- only empty slots were passed
abbrev pub invariant-loop-number : goal.invariant-loop-number
invariant-loop-number g l = live l.self-inside.slots ≡ live l.initial.self-inside.slots

abbrev pub decreases-loop-number : goal.decreases-loop-number
decreases-loop-number g l = length l.self-inside.slots
