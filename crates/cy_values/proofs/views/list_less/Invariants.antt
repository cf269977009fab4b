use Rattle.std.proofs.Common.{◌≡◌, ◌+◌, length}
use Rattle.std.specs.Iterator.Adapters.{zip_first, zip_second}
use Rattle.std.specs.Slice.Iter.{iter_rest}
use Rattle.cy_values.specs.Compare.{list_less}
use Rattle.cy_values.proofs.views.list_less.Given as goal

-- the elements that are left decide, and as many went from either list
abbrev pub invariant-loop-x : goal.invariant-loop-x
invariant-loop-x l =
    (list_less (iter_rest (zip_first l.x-iterator)) (iter_rest (zip_second l.x-iterator)) ≡ list_less l.left l.right)
    × (length (iter_rest (zip_first l.x-iterator)) + length l.right ≡ length (iter_rest (zip_second l.x-iterator)) + length l.left)
