-- The queries that are left lead as far as all do from the beginning.
use Rattle.std.proofs.Common.{◌≡◌, IsSome, drop, map}
use Rattle.std.specs.List.{All}
use Rattle.cy_trees.specs.TreeModels.{query_of}
use Rattle.cy_graph.specs.Graph.{IsGraph}
use Rattle.cy_scope.specs.Checked.{IsChecked, single}
use Rattle.cy_updates.specs.internal.Queries.{HaveCome}
use Rattle.cy_updates.proofs.statements.each_query.Given as goal

abbrev pub invariant-loop-query : goal.invariant-loop-query
invariant-loop-query l = record {
  come : HaveCome l.fn.store.graph.now l.store.graph.now (map query_of l.queries) l.done (map query_of (drop l.query-index l.others));
  checked : All (λ q. IsChecked (single q)) (map query_of (drop l.query-index l.others));
  graph : IsGraph l.store.graph.now;
  was : l.store.graph.was ≡ l.fn.store.graph.was;
  opened : IsSome l.store.graph.was;
  indexes : l.store.chosen ≡ l.fn.store.chosen;
}
