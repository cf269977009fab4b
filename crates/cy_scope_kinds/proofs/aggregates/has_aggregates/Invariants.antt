-- The parts that are left settle the answer.
use Rattle.std.proofs.Common.{◌≡◌, drop, map}
use Rattle.std.specs.List.{list_any}
use Rattle.cy_trees.specs.TreeModels.{item_of}
use Rattle.cy_scope_kinds.specs.Aggregates as spec
use Rattle.cy_scope_kinds.proofs.aggregates.has_aggregates.Given as goal

abbrev pub invariant-loop-item : goal.invariant-loop-item
invariant-loop-item l =
    list_any (λ i. spec.is_aggregate_call i.expression) (map item_of (drop l.item-index l.projection.items.items)) ≡ list_any (λ i. spec.is_aggregate_call i.expression) (map item_of l.projection.items.items)
