-- The parts that are left settle the answer.
use Rattle.std.proofs.Common.{◌≡◌, drop, map}
use Rattle.cy_trees.specs.TreeModels.{item_of}
use Rattle.cy_scope.specs.Views as spec
use Rattle.cy_scope.proofs.sureness.are_sure_items.Given as goal

abbrev pub invariant-loop-item : goal.invariant-loop-item
invariant-loop-item l =
    spec.are_sure_items l.scope (map item_of (drop l.item-index l.items)) ≡ spec.are_sure_items l.scope (map item_of l.items)
