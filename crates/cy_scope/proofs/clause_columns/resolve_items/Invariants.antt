-- What is done, and what the others are to become.
use Rattle.std.proofs.Common.{◌≡◌, map}
use Rattle.cy_trees.specs.TreeModels.{item_of}
use Rattle.cy_scope.specs.Resolved as spec
use Rattle.cy_scope_kinds.proofs.ResolvedLemmas.{mixed}
use Rattle.cy_scope.proofs.clause_columns.resolve_items.Given as goal

abbrev pub invariant-loop-item : goal.invariant-loop-item
invariant-loop-item l =
    mixed item_of (spec.resolved_item l.scope) l.item-index l.items ≡ map (spec.resolved_item l.scope) (map item_of l.initial.items)
