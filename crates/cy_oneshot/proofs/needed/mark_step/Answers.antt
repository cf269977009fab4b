use Rattle.std.proofs.lemmas.Result.{on_ok_weaker}
use Rattle.cy_trees.specs.TreeModels.{step_of}
use Rattle.cy_oneshot_patterns.specs.Places.{node, relationship}
use Rattle.cy_oneshot.specs.Carried.{IsPlaceRead}
use Rattle.cy_oneshot.specs.internal.Carried.{StillNeeded}
use Rattle.cy_oneshot.proofs.Marked.{both_ok, step_read, still_place, still_then}
use Rattle.cy_oneshot.proofs.needed.mark_step.Goals as goal

pub returns-clause-read : goal.returns-clause-read
returns-clause-read c =
    let step = step_of c.args.step.now in
    let before = c.mark_place.new.needed.items in
    let after = c.mark_place-2.new.needed.items in
    on_ok_weaker c.mark_place-2.result (λ end. step_read after step (still_place before after end.1 (relationship step.relationship) c.in_ok-mark_place.ensures.read) end.0)
    (both_ok (IsPlaceRead after (node step.node)) (StillNeeded before after) c.mark_place-2.result c.mark_place-2.ensures.read c.mark_place-2.ensures.still)

pub returns-clause-still : goal.returns-clause-still
returns-clause-still c =
    on_ok_weaker c.mark_place-2.result (λ still. still_then c.args.needed.now.items c.mark_place.new.needed.items c.mark_place-2.new.needed.items c.in_ok-mark_place.ensures.still still) c.mark_place-2.ensures.still
