use Rattle.std.proofs.Common.{◌≡◌, IsSome, drop, map}
use Rattle.cy_trees.specs.Trees.{Query}
use Rattle.cy_trees.specs.TreeModels.{clause_of}
use Rattle.cy_graph.specs.Graph.{IsGraph}
use Rattle.cy_updates.specs.internal.Reached.{IsReached}
use Rattle.cy_updates.proofs.queries.each_clause.Given as goal

-- the clauses that are left lead as far as all do from the beginning
abbrev pub invariant-loop-at : goal.invariant-loop-at
invariant-loop-at l = record {
  reached : IsReached l.fn.store.graph.now l.store.graph.now (let query : Query = record { clauses = map clause_of l.clauses } in query) l.done (map clause_of (drop l.at l.clauses));
  graph : IsGraph l.store.graph.now;
  was : l.store.graph.was ≡ l.fn.store.graph.was;
  opened : IsSome l.store.graph.was;
  indexes : l.store.chosen ≡ l.fn.store.chosen;
}
