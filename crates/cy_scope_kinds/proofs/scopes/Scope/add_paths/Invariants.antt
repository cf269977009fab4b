-- The paths that are left give the rest of the scope.
use Rattle.std.proofs.Common.{◌≡◌, drop, map}
use Rattle.cy_trees.specs.TreeModels.{path_of}
use Rattle.cy_scope_kinds.specs.Scopes.{with_paths}
use Rattle.cy_scope_kinds.proofs.scopes.Scope.add_paths.Given as goal

abbrev pub invariant-loop-path : goal.invariant-loop-path
invariant-loop-path l =
    with_paths l.self (map path_of (drop l.path-index l.paths)) ≡ with_paths l.fn.self (map path_of l.paths)
