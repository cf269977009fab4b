use Rattle.std.proofs.Common.{List, map, subst}
use Rattle.std.proofs.lemmas.Result.{on_ok_weaker}
use Rattle.cy_trees.specs.declared.clauses.Path as coded
use Rattle.cy_trees.specs.TreeModels.{path_of, where_of}
use Rattle.cy_oneshot_patterns.specs.Places.{places}
use Rattle.cy_oneshot.specs.Carried.{ArePlacesRead}
use Rattle.cy_oneshot.proofs.Marked.{still_then, still_where}
use Rattle.cy_oneshot.proofs.needed.mark_match.Goals as goal

pub returns-clause-places : goal.returns-clause-places
returns-clause-places c =
    on_ok_weaker c.mark_paths.result (λ read. subst (λ (ps : List coded.Path). ArePlacesRead c.mark_paths.new.needed.items (places (map path_of ps))) c.deref.ensures.value read) c.mark_paths.ensures.read

pub returns-clause-asked : goal.returns-clause-asked
returns-clause-asked c =
    on_ok_weaker c.mark_paths.result (λ still. still_where c.mark_where.new.needed.items c.mark_paths.new.needed.items still (where_of c.args.clause.now.filter) c.in_ok-mark_where.ensures.read) c.mark_paths.ensures.still

pub returns-clause-still : goal.returns-clause-still
returns-clause-still c =
    on_ok_weaker c.mark_paths.result (λ still. still_then c.args.needed.now.items c.mark_where.new.needed.items c.mark_paths.new.needed.items c.in_ok-mark_where.ensures.still still) c.mark_paths.ensures.still
