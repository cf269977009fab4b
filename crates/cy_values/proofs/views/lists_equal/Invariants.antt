use Rattle.std.proofs.Common.{◌≡◌}
use Rattle.std.specs.Iterator.Adapters.{zip_first, zip_second}
use Rattle.std.specs.Slice.Iter.{iter_rest}
use Rattle.cy_values.specs.Truth.{both}
use Rattle.cy_values.specs.Compare.{all_equality}
use Rattle.cy_values.proofs.views.lists_equal.Given as goal

-- what is known so far, and what is left
abbrev pub invariant-loop-x : goal.invariant-loop-x
invariant-loop-x l = both l.all (all_equality (iter_rest (zip_first l.x-iterator)) (iter_rest (zip_second l.x-iterator))) ≡ all_equality l.left l.right
