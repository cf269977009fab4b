use Rattle.std.proofs.Common.{List, map, subst}
use Rattle.std.proofs.lemmas.List.{take_all}
use Rattle.std.specs.List.{AllByRecursion}
use Rattle.cy_trees.specs.declared.clauses.Path as coded
use Rattle.cy_trees.specs.TreeModels.{path_of}
use Rattle.cy_oneshot_patterns.specs.Places.{path_places}
use Rattle.cy_oneshot.specs.Carried.{ArePlacesRead}
use Rattle.cy_oneshot.proofs.Marked.{each_more, paths_read, still_nothing, still_places, still_then}
use Rattle.cy_oneshot.proofs.needed.mark_paths.Goals as goal

pub loop-path-init : goal.loop-path-init
loop-path-init c = record { read = tt; still = still_nothing c.args.needed.now.items }

pub loop-path-preserved : goal.loop-path-preserved
loop-path-preserved c =
    let before = c.loop-path.needed.items in
    let after = c.mark_path.new.needed.items in
    let marked = c.in_ok-mark_path.ensures in
    record {
      read = each_more (λ flags x. ArePlacesRead flags (path_places x)) path_of before after c.args.paths.now c.loop-path.path-index c.path-item.result c.loop-path-test.true c.path-item.is
          (λ x are. still_places before after marked.still (path_places x) are) c.loop-path.invariant.read marked.read;
      still = still_then c.args.needed.now.items before after c.loop-path.invariant.still marked.still;
    }

pub returns-clause-read : goal.returns-clause-read
returns-clause-read c =
    let flags = c.loop-path.needed.items in
    paths_read flags (map path_of c.args.paths.now)
    (subst (λ (xs : List coded.Path). AllByRecursion (λ x. ArePlacesRead flags (path_places x)) (map path_of xs)) (take_all c.loop-path.path-index c.args.paths.now c.loop-path-test.false) c.loop-path.invariant.read)

pub returns-clause-still : goal.returns-clause-still
returns-clause-still c = c.loop-path.invariant.still
