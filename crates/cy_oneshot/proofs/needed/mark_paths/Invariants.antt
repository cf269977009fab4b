-- The columns that the paths so far read are marked.
use Rattle.std.proofs.Common.{map, take}
use Rattle.std.specs.List.{AllByRecursion}
use Rattle.cy_trees.specs.TreeModels.{path_of}
use Rattle.cy_oneshot_patterns.specs.Places.{path_places}
use Rattle.cy_oneshot.specs.Carried.{ArePlacesRead}
use Rattle.cy_oneshot.specs.internal.Carried.{StillNeeded}
use Rattle.cy_oneshot.proofs.needed.mark_paths.Given as goal

abbrev pub invariant-loop-path : goal.invariant-loop-path
invariant-loop-path l =
    record {
      read : AllByRecursion (λ x. ArePlacesRead l.needed.items (path_places x)) (map path_of (take l.path-index l.paths));
      still : StillNeeded l.initial.needed.items l.needed.items;
    }
