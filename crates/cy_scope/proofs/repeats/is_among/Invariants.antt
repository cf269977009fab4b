-- The items that are left settle the answer.
use Rattle.std.proofs.Common.{◌≡◌, drop, map}
use Rattle.cy_trees.specs.TreeModels.{expression_of, item_of}
use Rattle.cy_scope.specs.ProjectionFaults.{repeats}
use Rattle.cy_scope.proofs.repeats.is_among.Given as goal

abbrev pub invariant-loop-item : goal.invariant-loop-item
invariant-loop-item l =
    repeats (map item_of (drop l.item-index l.items)) (expression_of l.expression) ≡ repeats (map item_of l.items) (expression_of l.expression)
