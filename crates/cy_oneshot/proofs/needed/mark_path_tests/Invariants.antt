-- The columns that the paths of the tests so far read are marked.
use Rattle.std.proofs.Common.{map, take}
use Rattle.std.specs.List.{AllByRecursion}
use Rattle.cy_trees.specs.TreeModels.{path_of}
use Rattle.cy_oneshot_patterns.specs.Places.{path_places}
use Rattle.cy_oneshot.specs.Carried.{ArePlacesRead}
use Rattle.cy_oneshot.specs.internal.Carried.{StillNeeded}
use Rattle.cy_oneshot.proofs.needed.mark_path_tests.Given as goal

abbrev pub invariant-loop-test : goal.invariant-loop-test
invariant-loop-test l =
    record {
      read : AllByRecursion (λ x. ArePlacesRead l.needed.items (path_places x)) (map (λ t. path_of t.path) (take l.test-index l.tests));
      still : StillNeeded l.initial.needed.items l.needed.items;
    }
