-- The queries that are left settle the answer.
use Rattle.std.proofs.Common.{◌≡◌, drop, map}
use Rattle.std.specs.List.{list_any}
use Rattle.cy_trees.specs.TreeModels.{query_of}
use Rattle.cy_scope.specs.Views.{is_update}
use Rattle.cy_tests_layers.proofs.statements.any_updates.Given as goal

abbrev pub invariant-loop-query : goal.invariant-loop-query
invariant-loop-query l =
    list_any (λ q. list_any is_update q.clauses) (map query_of (drop l.query-index l.queries)) ≡ list_any (λ q. list_any is_update q.clauses) (map query_of l.queries)
