-- What is left settles the fault.
use Rattle.std.proofs.Common.{◌≡◌, drop, map}
use Rattle.cy_trees.specs.TreeModels.{remove_item_of}
use Rattle.cy_scope.specs.ClauseFaults as spec
use Rattle.cy_scope.proofs.clause_checks.check_removes.Given as goal

abbrev pub invariant-loop-item : goal.invariant-loop-item
invariant-loop-item l =
    spec.removes_fault l.scope (map remove_item_of (drop l.item-index l.items)) ≡ spec.removes_fault l.scope (map remove_item_of l.items)
