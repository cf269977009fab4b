-- The columns that the steps so far read are marked.
use Rattle.std.proofs.Common.{map, take}
use Rattle.std.specs.List.{AllByRecursion}
use Rattle.cy_trees.specs.TreeModels.{step_of}
use Rattle.cy_oneshot_patterns.specs.Places.{step_places}
use Rattle.cy_oneshot.specs.Carried.{ArePlacesRead}
use Rattle.cy_oneshot.specs.internal.Carried.{StillNeeded}
use Rattle.cy_oneshot.proofs.needed.mark_steps.Given as goal

abbrev pub invariant-loop-step : goal.invariant-loop-step
invariant-loop-step l =
    record {
      read : AllByRecursion (λ x. ArePlacesRead l.needed.items (step_places x)) (map step_of (take l.step-index l.steps));
      still : StillNeeded l.initial.needed.items l.needed.items;
    }
