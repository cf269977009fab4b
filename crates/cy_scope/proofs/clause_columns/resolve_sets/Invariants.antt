-- What is done, and what the others are to become.
use Rattle.std.proofs.Common.{◌≡◌, map}
use Rattle.cy_trees.specs.TreeModels.{set_item_of}
use Rattle.cy_scope.specs.Resolved as spec
use Rattle.cy_scope_kinds.proofs.ResolvedLemmas.{mixed}
use Rattle.cy_scope.proofs.clause_columns.resolve_sets.Given as goal

abbrev pub invariant-loop-item : goal.invariant-loop-item
invariant-loop-item l =
    mixed set_item_of (spec.resolved_set l.scope) l.item-index l.items ≡ map (spec.resolved_set l.scope) (map set_item_of l.initial.items)
