-- The parts that are left settle the answer.
use Rattle.std.proofs.Common.{◌≡◌, drop, map}
use Rattle.std.specs.List.{list_any}
use Rattle.cy_trees.specs.TreeModels.{clause_of}
use Rattle.cy_scope.specs.Views as spec
use Rattle.cy_scope.proofs.views.has_update.Given as goal

abbrev pub invariant-loop-clause : goal.invariant-loop-clause
invariant-loop-clause l =
    list_any spec.is_update (map clause_of (drop l.clause-index l.clauses)) ≡ list_any spec.is_update (map clause_of l.clauses)
