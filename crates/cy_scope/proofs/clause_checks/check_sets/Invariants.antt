-- What is left settles the fault.
use Rattle.std.proofs.Common.{◌≡◌, drop, map}
use Rattle.cy_trees.specs.TreeModels.{set_item_of}
use Rattle.cy_scope.specs.ClauseFaults as spec
use Rattle.cy_scope.proofs.clause_checks.check_sets.Given as goal

abbrev pub invariant-loop-item : goal.invariant-loop-item
invariant-loop-item l =
    spec.sets_fault l.scope (map set_item_of (drop l.item-index l.items)) ≡ spec.sets_fault l.scope (map set_item_of l.items)
