-- The parts that are left settle the answer.
use Rattle.std.proofs.Common.{◌≡◌, drop, map}
use Rattle.std.specs.List.{list_all}
use Rattle.cy_trees.specs.TreeModels.{step_of}
use Rattle.cy_scope.specs.Views as spec
use Rattle.cy_scope.proofs.sureness.is_sure_path.Given as goal

abbrev pub invariant-loop-step : goal.invariant-loop-step
invariant-loop-step l =
    list_all (spec.is_sure_step l.scope) (map step_of (drop l.step-index l.path.steps.items)) ≡ list_all (spec.is_sure_step l.scope) (map step_of l.path.steps.items)
