use Rattle.std.proofs.Common.{◌≡◌, ◌++◌, take}
use Rattle.cy_bags.proofs.bags.extended.Given as goal

-- the others so far are copied
abbrev pub invariant-loop-row : goal.invariant-loop-row
invariant-loop-row l = l.pairs.items ≡ l.initial.pairs.items ++ take l.row-index l.others
