-- What is done, and what the others are to become.
use Rattle.std.proofs.Common.{◌≡◌, ◌++◌, [], map, take, drop}
use Rattle.cy_trees.specs.TreeModels.{clause_of}
use Rattle.cy_scope.specs.Resolved as spec
use Rattle.cy_scope.proofs.clause_columns.resolve_clauses.Given as goal

abbrev pub invariant-loop-clause : goal.invariant-loop-clause
invariant-loop-clause l =
    map clause_of (take l.clause-index l.clauses) ++ spec.resolved_clauses l.scope (map clause_of (drop l.clause-index l.clauses)) ≡ spec.resolved_clauses [] (map clause_of l.initial.clauses)
