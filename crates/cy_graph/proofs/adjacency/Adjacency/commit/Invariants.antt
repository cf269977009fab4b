use Rattle.std.proofs.Common.{ℕ}
use Rattle.cy_graph.specs.internal.Adjacency.{ids_at, IsCompacted}
use Rattle.cy_graph.proofs.adjacency.Adjacency.commit.Given as goal

-- lists were compacted, and nothing else
abbrev pub invariant-loop-step : goal.invariant-loop-step
invariant-loop-step l = (m : ℕ) → IsCompacted l.rels.now.entries (ids_at m l.initial.self.lists) (ids_at m l.self.lists)

abbrev pub decreases-loop-step : goal.decreases-loop-step
decreases-loop-step l = goal.left-loop-step l
