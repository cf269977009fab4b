-- Where it is so of all that are left, it is of all; each touched entity is read once.
use Rattle.std.proofs.Common.{◌≡◌, ℕ, ◌≤◌, ◌+◌, Option, length}
use Rattle.std.specs.List.{All}
use Rattle.cy_graph.specs.declared.nodes.Rel.{Rel}
use Rattle.cy_graph.specs.Graph.{rel_at}
use Rattle.cy_planner_algebra.specs.PlanModels.{plan_of}
use Rattle.cy_network_relevance.specs.internal.Kept.{IsRelUnchanged}
use Rattle.cy_network_relevance.proofs.plans.changes_by_rels.Given as goal

abbrev pub invariant-loop-number : goal.invariant-loop-number
invariant-loop-number l = record {
  unchanged : All (λ (e : ℕ × Option Rel). IsRelUnchanged e.1 (rel_at (record { 0 = e.0 }) l.initial.sight.graph.now) (plan_of l.part)) l.number-iterator
      → All (λ (e : ℕ × Option Rel). IsRelUnchanged e.1 (rel_at (record { 0 = e.0 }) l.initial.sight.graph.now) (plan_of l.part)) l.change.rels;
  graph : l.sight.graph ≡ l.initial.sight.graph;
  reads : l.sight.reads + length l.number-iterator ≤ l.initial.sight.reads + length l.change.rels;
}
