-- The entries that are left settle the fault.
use Rattle.std.proofs.Common.{◌≡◌, drop, map}
use Rattle.cy_trees.specs.TreeModels.{entry_of}
use Rattle.cy_scope.specs.PatternFaults.{entries_fault}
use Rattle.cy_scope.proofs.pattern_checks.check_map.Given as goal

abbrev pub invariant-loop-entry : goal.invariant-loop-entry
invariant-loop-entry l =
    entries_fault l.before (map entry_of (drop l.entry-index l.entry-items)) ≡ entries_fault l.before (map entry_of l.entry-items)
