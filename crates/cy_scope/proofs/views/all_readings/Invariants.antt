-- The queries that are left settle the answer.
use Rattle.std.proofs.Common.{◌≡◌, drop, map}
use Rattle.std.specs.List.{list_all}
use Rattle.cy_trees.specs.TreeModels.{query_of}
use Rattle.cy_scope.specs.Views as spec
use Rattle.cy_scope.proofs.views.all_readings.Given as goal

abbrev pub invariant-loop-query : goal.invariant-loop-query
invariant-loop-query l =
    list_all (λ q. spec.is_reading q.clauses) (map query_of (drop l.query-index l.queries)) ≡ list_all (λ q. spec.is_reading q.clauses) (map query_of l.queries)
