-- what the nodes so far make; each is read once
use Rattle.std.proofs.Common.{◌≡◌, ◌≤◌, ◌+◌, List, length, map}
use Rattle.std.specs.Prelude.{flat_map}
use Rattle.std.specs.List.{All}
use Rattle.cy_values.specs.declared.rows.Cell.{Cell}
use Rattle.cy_planner_algebra.specs.PlanModels.{plan_of}
use Rattle.cy_network_operators.specs.Deltas.{IsBounded, deltas_of}
use Rattle.cy_network_sources.proofs.FirstScans.{come}
use Rattle.cy_network_sources.proofs.scanning.come_nodes.Given as goal

abbrev pub invariant-loop-id : goal.invariant-loop-id
invariant-loop-id l = record {
  made : (row : List Cell) → deltas_of row l.deltas.items ≡ flat_map (come l.initial.sight.graph.now (map (λ part. plan_of part.now) l.parts) row) l.yielded;
  bounded : All IsBounded l.deltas.items;
  graph : l.sight.graph ≡ l.initial.sight.graph;
  reads : l.sight.reads ≤ l.initial.sight.reads + length l.yielded;
}
