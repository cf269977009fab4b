-- The parts that are left settle the answer.
use Rattle.std.proofs.Common.{◌≡◌, drop, map}
use Rattle.cy_trees.specs.TreeModels.{path_of}
use Rattle.cy_scope.specs.Views as spec
use Rattle.cy_scope.proofs.sureness.are_sure_paths.Given as goal

abbrev pub invariant-loop-path : goal.invariant-loop-path
invariant-loop-path l =
    spec.are_sure_paths l.scope (map path_of (drop l.path-index l.paths)) ≡ spec.are_sure_paths l.scope (map path_of l.paths)
