-- What was found for a row of nulls.
use Rattle.std.proofs.Common.{◌≡◌, true, map}
use Rattle.cy_trees.specs.TreeModels.{path_of}
use Rattle.cy_oneshot.proofs.KnownPaths.{known_by_nulls}
use Rattle.cy_oneshot.proofs.conditions.known_presence.Goals as goal

pub returns-in-Ok : goal.returns-in-Ok
returns-in-Ok c =
    let nothing : c.in_ok-reads_nothing.field-0 ≡ true = cc in
    known_by_nulls c.args.store.now.graph.now.content c.args.pattern.now.width (map path_of c.args.pattern.now.paths.now) (path_of c.args.path.now) c.in-Ok.there c.in_ok-row.row c.requires.path
    (c.in_ok-reads_nothing.ensures nothing) c.in_ok-row.ensures c.in-Ok.ensures
