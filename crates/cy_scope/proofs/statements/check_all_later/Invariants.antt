-- The queries that are left settle the fault.
use Rattle.std.proofs.Common.{◌≡◌, drop, map}
use Rattle.cy_trees.specs.TreeModels.{query_of}
use Rattle.cy_scope_kinds.specs.Faults.{first_fault}
use Rattle.cy_scope.specs.ClauseFaults as spec
use Rattle.cy_scope.proofs.statements.check_all_later.Given as goal

abbrev pub invariant-loop-query : goal.invariant-loop-query
invariant-loop-query l =
    first_fault (spec.later_query_fault l.columns) (map query_of (drop l.query-index l.queries)) ≡ first_fault (spec.later_query_fault l.columns) (map query_of l.queries)
