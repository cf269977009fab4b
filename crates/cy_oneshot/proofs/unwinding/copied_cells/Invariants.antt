use Rattle.std.proofs.Common.{◌≡◌, take}
use Rattle.cy_oneshot.specs.Carried.{carried_from}
use Rattle.cy_oneshot.proofs.unwinding.copied_cells.Given as goal

-- the cells so far
abbrev pub invariant-loop-cell : goal.invariant-loop-cell
invariant-loop-cell l = l.cells.items ≡ carried_from l.needed 0 (take l.cell-index l.row)
