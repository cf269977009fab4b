-- The parts that are left settle the answer.
use Rattle.std.proofs.Common.{◌≡◌, drop, map}
use Rattle.std.specs.List.{list_any}
use Rattle.cy_trees.specs.TreeModels.{step_of}
use Rattle.cy_scope.specs.Views as spec
use Rattle.cy_scope.proofs.views.has_unbounded.Given as goal

abbrev pub invariant-loop-step : goal.invariant-loop-step
invariant-loop-step l =
    list_any (λ s. spec.is_unbounded_length s.relationship.length) (map step_of (drop l.step-index l.path.steps.items)) ≡ list_any (λ s. spec.is_unbounded_length s.relationship.length) (map step_of l.path.steps.items)
