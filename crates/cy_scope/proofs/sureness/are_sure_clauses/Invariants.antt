-- The clauses that are left settle the answer.
use Rattle.std.proofs.Common.{◌≡◌, [], drop, map}
use Rattle.cy_trees.specs.TreeModels.{clause_of}
use Rattle.cy_scope.specs.Views as spec
use Rattle.cy_scope.proofs.sureness.are_sure_clauses.Given as goal

abbrev pub invariant-loop-clause : goal.invariant-loop-clause
invariant-loop-clause l =
    spec.are_sure_clauses l.scope (map clause_of (drop l.clause-index l.clauses)) ≡ spec.are_sure_clauses [] (map clause_of l.clauses)
