use Rattle.std.proofs.Common.{List, map, subst}
use Rattle.std.proofs.lemmas.List.{take_all}
use Rattle.std.specs.List.{AllByRecursion}
use Rattle.cy_trees.specs.declared.clauses.Step as coded
use Rattle.cy_trees.specs.TreeModels.{step_of}
use Rattle.cy_oneshot_patterns.specs.Places.{step_places}
use Rattle.cy_oneshot.specs.Carried.{ArePlacesRead}
use Rattle.cy_oneshot.proofs.Marked.{each_more, steps_read, still_nothing, still_places, still_then}
use Rattle.cy_oneshot.proofs.needed.mark_steps.Goals as goal

pub loop-step-init : goal.loop-step-init
loop-step-init c = record { read = tt; still = still_nothing c.args.needed.now.items }

pub loop-step-preserved : goal.loop-step-preserved
loop-step-preserved c =
    let before = c.loop-step.needed.items in
    let after = c.mark_step.new.needed.items in
    let marked = c.in_ok-mark_step.ensures in
    record {
      read = each_more (λ flags x. ArePlacesRead flags (step_places x)) step_of before after c.args.steps.now c.loop-step.step-index c.step-item.result c.loop-step-test.true c.step-item.is
          (λ x are. still_places before after marked.still (step_places x) are) c.loop-step.invariant.read marked.read;
      still = still_then c.args.needed.now.items before after c.loop-step.invariant.still marked.still;
    }

pub returns-clause-read : goal.returns-clause-read
returns-clause-read c =
    let flags = c.loop-step.needed.items in
    steps_read flags (map step_of c.args.steps.now)
    (subst (λ (xs : List coded.Step). AllByRecursion (λ x. ArePlacesRead flags (step_places x)) (map step_of xs)) (take_all c.loop-step.step-index c.args.steps.now c.loop-step-test.false) c.loop-step.invariant.read)

pub returns-clause-still : goal.returns-clause-still
returns-clause-still c = c.loop-step.invariant.still
