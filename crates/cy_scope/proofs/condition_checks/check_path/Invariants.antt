-- The steps that are left settle the fault.
use Rattle.std.proofs.Common.{◌≡◌, drop, map}
use Rattle.cy_trees.specs.TreeModels.{step_of}
use Rattle.cy_scope_kinds.specs.Faults.{first_fault}
use Rattle.cy_scope.specs.ConditionFaults as spec
use Rattle.cy_scope.proofs.condition_checks.check_path.Given as goal

abbrev pub invariant-loop-step : goal.invariant-loop-step
invariant-loop-step l =
    first_fault (spec.tested_step_fault l.scope) (map step_of (drop l.step-index l.path.steps.items)) ≡ first_fault (spec.tested_step_fault l.scope) (map step_of l.path.steps.items)
