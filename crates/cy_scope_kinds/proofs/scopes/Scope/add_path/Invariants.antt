-- The steps that are left give the rest of the scope.
use Rattle.std.proofs.Common.{◌≡◌, drop, map}
use Rattle.cy_trees.specs.TreeModels.{path_of, step_of}
use Rattle.cy_scope_kinds.specs.Scopes.{with_steps, with_path}
use Rattle.cy_scope_kinds.proofs.scopes.Scope.add_path.Given as goal

abbrev pub invariant-loop-step : goal.invariant-loop-step
invariant-loop-step l =
    with_steps l.self (map step_of (drop l.step-index l.path.steps.items)) ≡ with_path l.fn.self (path_of l.path)
