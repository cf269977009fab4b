-- The steps that are left settle the fault and the scope.
use Rattle.std.proofs.Common.{◌≡◌, ◌++◌, drop, map}
use Rattle.cy_trees.specs.TreeModels.{path_of, step_of}
use Rattle.cy_scope_kinds.specs.Scopes.{with_steps, with_path}
use Rattle.cy_scope.specs.PatternFaults.{steps_fault, path_fault}
use Rattle.cy_scope.proofs.pattern_checks.check_path.Given as goal

abbrev pub invariant-loop-step : goal.invariant-loop-step
invariant-loop-step l =
    let left = map step_of (drop l.step-index l.path.steps.items) in
    record {
      fault : steps_fault l.creating l.before (l.before ++ l.fresh) left ≡ path_fault l.creating l.before (l.before ++ l.fn.fresh) (path_of l.path);
      after : with_steps (l.before ++ l.fresh) left ≡ with_path (l.before ++ l.fn.fresh) (path_of l.path);
    }
