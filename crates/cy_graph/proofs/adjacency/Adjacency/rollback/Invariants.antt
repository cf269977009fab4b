use Rattle.std.proofs.Common.{◌≡◌, ℕ, reverse}
use Rattle.cy_graph.specs.internal.Adjacency.{ids_at, undone}
use Rattle.cy_graph.proofs.adjacency.Adjacency.rollback.Given as goal

-- what is left to be undone gives what all of it did at the start
abbrev pub invariant-loop-step : goal.invariant-loop-step
invariant-loop-step l = (m : ℕ) → undone (reverse l.self.steps.items) (λ n. ids_at n l.self.lists) m ≡ undone (reverse l.initial.self.steps.items) (λ n. ids_at n l.initial.self.lists) m

abbrev pub decreases-loop-step : goal.decreases-loop-step
decreases-loop-step l = goal.left-loop-step l
