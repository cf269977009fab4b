use Rattle.std.proofs.Common.{List, map, subst}
use Rattle.std.specs.Prelude.{flat_map}
use Rattle.std.proofs.lemmas.Result.{on_ok_weaker}
use Rattle.cy_trees.specs.declared.clauses.Step as coded
use Rattle.cy_trees.specs.TreeModels.{path_of, step_of}
use Rattle.cy_oneshot_patterns.specs.Places.{node, step_places}
use Rattle.cy_oneshot.specs.Carried.{ArePlacesRead}
use Rattle.cy_oneshot.specs.internal.Carried.{StillNeeded}
use Rattle.cy_oneshot.proofs.Marked.{both_ok, still_place, still_then}
use Rattle.cy_oneshot.proofs.needed.mark_path.Goals as goal

pub returns-clause-read : goal.returns-clause-read
returns-clause-read c =
    let path = path_of c.args.path.now in
    let before = c.mark_place.new.needed.items in
    let after = c.mark_steps.new.needed.items in
    on_ok_weaker c.mark_steps.result
    (λ steps. (
      still_place before after steps.1 (node path.start) c.in_ok-mark_place.ensures.read,
      subst (λ (ss : List coded.Step). ArePlacesRead after (flat_map step_places (map step_of ss))) c.deref.ensures.value steps.0,
    ))
    (both_ok (ArePlacesRead after (flat_map step_places (map step_of c.deref.result.now))) (StillNeeded before after) c.mark_steps.result c.mark_steps.ensures.read c.mark_steps.ensures.still)

pub returns-clause-still : goal.returns-clause-still
returns-clause-still c =
    on_ok_weaker c.mark_steps.result (λ still. still_then c.args.needed.now.items c.mark_place.new.needed.items c.mark_steps.new.needed.items c.in_ok-mark_place.ensures.still still) c.mark_steps.ensures.still
