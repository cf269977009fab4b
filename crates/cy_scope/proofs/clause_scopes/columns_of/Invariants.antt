-- The items that are left give the rest of the columns.
use Rattle.std.proofs.Common.{◌≡◌, drop, map}
use Rattle.cy_trees.specs.TreeModels.{item_of}
use Rattle.cy_scope.specs.ClauseScopes.{with_items, columns_of}
use Rattle.cy_scope.proofs.clause_scopes.columns_of.Given as goal

abbrev pub invariant-loop-item : goal.invariant-loop-item
invariant-loop-item l =
    with_items l.columns l.scope (map item_of (drop l.item-index l.items)) ≡ columns_of l.scope (map item_of l.items)
