-- What is left settles the fault and the scope.
use Rattle.std.proofs.Common.{◌≡◌, drop, map}
use Rattle.cy_trees.specs.TreeModels.{clause_of, query_of}
use Rattle.cy_scope.specs.ClauseScopes.{scope_after_all, query_scope}
use Rattle.cy_scope.specs.ClauseFaults.{clauses_fault, query_fault}
use Rattle.cy_scope.proofs.clause_checks.check_query.Given as goal

abbrev pub invariant-loop-clause : goal.invariant-loop-clause
invariant-loop-clause l =
    let left = map clause_of (drop l.clause-index l.query.clauses.items) in
    record {
      fault : clauses_fault l.scope left ≡ query_fault (query_of l.query);
      after : scope_after_all l.scope left ≡ query_scope (query_of l.query);
    }
