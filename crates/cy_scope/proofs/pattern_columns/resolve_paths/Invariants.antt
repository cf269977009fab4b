-- What is done, and what the others are to become.
use Rattle.std.proofs.Common.{◌≡◌, map}
use Rattle.cy_trees.specs.TreeModels.{path_of}
use Rattle.cy_scope.specs.Resolved as spec
use Rattle.cy_scope_kinds.proofs.ResolvedLemmas.{mixed}
use Rattle.cy_scope.proofs.pattern_columns.resolve_paths.Given as goal

abbrev pub invariant-loop-path : goal.invariant-loop-path
invariant-loop-path l =
    mixed path_of (spec.resolved_path l.scope) l.path-index l.paths ≡ map (spec.resolved_path l.scope) (map path_of l.initial.paths)
