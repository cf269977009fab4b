-- The parts that are left settle the answer.
use Rattle.std.proofs.Common.{◌≡◌, drop, map}
use Rattle.std.specs.List.{list_all}
use Rattle.cy_trees.specs.TreeModels.{entry_of}
use Rattle.cy_scope_kinds.specs.Sure.{is_sure}
use Rattle.cy_scope.proofs.sureness.is_sure_map.Given as goal

abbrev pub invariant-loop-entry : goal.invariant-loop-entry
invariant-loop-entry l =
    list_all (λ e. is_sure l.scope e.value) (map entry_of (drop l.entry-index l.entry-items)) ≡ list_all (λ e. is_sure l.scope e.value) (map entry_of l.entry-items)
