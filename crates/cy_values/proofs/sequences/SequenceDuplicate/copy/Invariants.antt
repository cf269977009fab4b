use Rattle.std.proofs.Common.{◌≡◌, take}
use Rattle.cy_values.proofs.sequences.SequenceDuplicate.copy.Given as goal

-- the elements so far are copied
abbrev pub invariant-loop-element : goal.invariant-loop-element
invariant-loop-element g l = l.elements.items ≡ take l.element-index l.element-items
