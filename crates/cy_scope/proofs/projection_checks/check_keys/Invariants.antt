-- The keys that are left settle the fault.
use Rattle.std.proofs.Common.{◌≡◌, ◌++◌, drop, map}
use Rattle.cy_trees.specs.TreeModels.{item_of, key_of}
use Rattle.cy_scope.specs.ProjectionFaults.{keys_fault}
use Rattle.cy_scope.proofs.projection_checks.check_keys.Given as goal

abbrev pub invariant-loop-key : goal.invariant-loop-key
invariant-loop-key l =
    keys_fault (l.columns ++ l.others) (map item_of l.items) (map key_of (drop l.key-index l.keys)) ≡ keys_fault (l.columns ++ l.others) (map item_of l.items) (map key_of l.keys)
