-- the cells so far that aren't needed are null
use Rattle.std.proofs.Common.{◌≡◌, take}
use Rattle.cy_oneshot.specs.Carried.{carried_from}
use Rattle.cy_oneshot.proofs.unwinding.clear_unneeded.Given as goal

abbrev pub invariant-loop-place : goal.invariant-loop-place
invariant-loop-place l = l.cells.items ≡ carried_from (take l.place l.needed) 0 l.initial.cells.items
