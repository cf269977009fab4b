-- The items that are left settle the fault and the columns.
use Rattle.std.proofs.Common.{◌≡◌, [], drop, map}
use Rattle.cy_trees.specs.TreeModels.{item_of}
use Rattle.cy_scope.specs.ClauseScopes.{with_items, columns_of}
use Rattle.cy_scope.specs.ProjectionFaults.{items_fault}
use Rattle.cy_scope.proofs.projection_checks.check_items.Given as goal

abbrev pub invariant-loop-item : goal.invariant-loop-item
invariant-loop-item l =
    let left = map item_of (drop l.item-index l.items) in
    let all = map item_of l.items in
    record {
      fault : items_fault l.naming l.scope l.columns left ≡ items_fault l.naming l.scope [] all;
      after : with_items l.columns l.scope left ≡ columns_of l.scope all;
    }
