-- What is done, and what the others are to become.
use Rattle.std.proofs.Common.{◌≡◌, map}
use Rattle.cy_trees.specs.TreeModels.{entry_of}
use Rattle.cy_scope.specs.Resolved as spec
use Rattle.cy_scope_kinds.proofs.ResolvedLemmas.{mixed}
use Rattle.cy_scope.proofs.pattern_columns.resolved_entries.Given as goal

abbrev pub invariant-loop-entry : goal.invariant-loop-entry
invariant-loop-entry l =
    mixed entry_of (spec.resolved_entry l.scope) l.entry-index l.entry-items ≡ map (spec.resolved_entry l.scope) (map entry_of l.initial.entry-items)
