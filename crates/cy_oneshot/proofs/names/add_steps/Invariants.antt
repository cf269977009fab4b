use Rattle.std.proofs.Common.{◌≡◌, drop, map}
use Rattle.cy_trees.specs.TreeModels.{step_of}
use Rattle.cy_oneshot.specs.internal.Names.{with_steps_names}
use Rattle.cy_oneshot.proofs.names.add_steps.Given as goal

-- the names so far, with those of the steps that are left
abbrev pub invariant-loop-step : goal.invariant-loop-step
invariant-loop-step l =
    with_steps_names l.columns.items (map step_of (drop l.step-index l.steps)) ≡ with_steps_names l.initial.columns.items (map step_of l.steps)
