-- The parts that are left settle the answer.
use Rattle.std.proofs.Common.{◌≡◌, drop, map}
use Rattle.std.specs.List.{list_any}
use Rattle.cy_trees.specs.TreeModels.{path_of}
use Rattle.cy_scope.specs.Views as spec
use Rattle.cy_scope.proofs.views.has_unbounded_path.Given as goal

abbrev pub invariant-loop-path : goal.invariant-loop-path
invariant-loop-path l =
    list_any spec.has_unbounded (map path_of (drop l.path-index l.paths)) ≡ list_any spec.has_unbounded (map path_of l.paths)
