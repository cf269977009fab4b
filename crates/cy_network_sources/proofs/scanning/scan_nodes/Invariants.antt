-- What is made so far of a row, with what is still to be made, is all; each touched node is read once.
use Rattle.std.proofs.Common.{◌≡◌, ℕ, ◌≤◌, ◌+◌, ◌++◌, List, Option, length, map}
use Rattle.std.specs.Prelude.{flat_map}
use Rattle.std.specs.List.{All}
use Rattle.cy_values.specs.declared.rows.Cell.{Cell}
use Rattle.cy_graph.specs.declared.nodes.Node.{Node}
use Rattle.cy_graph.specs.Graph.{node_at}
use Rattle.cy_planner_algebra.specs.PlanModels.{plan_of}
use Rattle.cy_network_operators.specs.Deltas.{IsBounded, deltas_of}
use Rattle.cy_network_sources.specs.internal.Through.{IsNodeFit, node_made, recounted}
use Rattle.cy_network_sources.proofs.scanning.scan_nodes.Given as goal

abbrev pub invariant-loop-number : goal.invariant-loop-number
invariant-loop-number l = record {
  made : (row : List Cell) → deltas_of row l.deltas.items
      ++ flat_map (λ (e : ℕ × Option Node). recounted (node_made (map (λ part. plan_of part.now) l.parts) e.0 e.1)
      (node_made (map (λ part. plan_of part.now) l.parts) e.0 (node_at (record { 0 = e.0 }) l.initial.sight.graph.now)) row) l.number-iterator
      ≡ flat_map (λ (e : ℕ × Option Node). recounted (node_made (map (λ part. plan_of part.now) l.parts) e.0 e.1)
      (node_made (map (λ part. plan_of part.now) l.parts) e.0 (node_at (record { 0 = e.0 }) l.initial.sight.graph.now)) row) l.change.nodes;
  fit : All (λ (e : ℕ × Option Node). IsNodeFit (map (λ part. plan_of part.now) l.parts) e.0 e.1
      × IsNodeFit (map (λ part. plan_of part.now) l.parts) e.0 (node_at (record { 0 = e.0 }) l.initial.sight.graph.now)) l.number-iterator;
  bounded : All IsBounded l.deltas.items;
  graph : l.sight.graph ≡ l.initial.sight.graph;
  reads : l.sight.reads + length l.number-iterator ≤ l.initial.sight.reads + length l.change.nodes;
}
