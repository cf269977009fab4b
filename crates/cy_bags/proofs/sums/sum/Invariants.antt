use Rattle.std.proofs.Common.{◌+◌, ◌-◌, length}
use Rattle.cy_bags.proofs.Merging.{IsMerged}
use Rattle.cy_bags.proofs.sums.sum.Given as goal

-- what is merged so far, and what is left on both sides
abbrev pub invariant-loop-i : goal.invariant-loop-i
invariant-loop-i l = IsMerged l.left l.right l.sum.items l.i l.j

abbrev pub decreases-loop-i : goal.decreases-loop-i
decreases-loop-i l = length l.left + length l.right - (l.i + l.j)
