use Rattle.std.proofs.Common.{◌≡◌, drop, map}
use Rattle.cy_trees.specs.TreeModels.{path_of}
use Rattle.cy_oneshot_patterns.specs.Places.{places}
use Rattle.cy_oneshot_meaning.specs.Queries.{with_new_names}
use Rattle.cy_oneshot.proofs.names.add_names.Given as goal

-- the names so far, with those of the paths that are left
abbrev pub invariant-loop-path : goal.invariant-loop-path
invariant-loop-path l =
    with_new_names l.columns.items (places (map path_of (drop l.path-index l.paths))) ≡ with_new_names l.initial.columns.items (places (map path_of l.paths))
