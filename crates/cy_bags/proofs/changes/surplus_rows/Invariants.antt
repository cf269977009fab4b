use Rattle.std.proofs.Common.{◌≡◌, ◌++◌, drop}
use Rattle.cy_bags.specs.internal.Surplus.{surplus_of}
use Rattle.cy_bags.proofs.changes.surplus_rows.Given as goal

-- what is found so far and what is surplus among those left are all
abbrev pub invariant-loop-row : goal.invariant-loop-row
invariant-loop-row l = l.surplus.items ++ surplus_of (drop l.row-index l.more) l.less ≡ surplus_of l.more l.less
