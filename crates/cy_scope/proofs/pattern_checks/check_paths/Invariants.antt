-- The paths that are left settle the fault.
use Rattle.std.proofs.Common.{◌≡◌, ◌++◌, drop, map}
use Rattle.cy_trees.specs.TreeModels.{path_of}
use Rattle.cy_scope.specs.PatternFaults.{paths_fault}
use Rattle.cy_scope.proofs.pattern_checks.check_paths.Given as goal

abbrev pub invariant-loop-path : goal.invariant-loop-path
invariant-loop-path l =
    paths_fault l.creating l.before (l.before ++ l.fresh) (map path_of (drop l.path-index l.paths)) ≡ paths_fault l.creating l.before l.before (map path_of l.paths)
