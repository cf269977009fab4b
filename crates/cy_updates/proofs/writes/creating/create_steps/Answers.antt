use Rattle.std.proofs.Common.{◌+◌, IsSome, Option, sym, subst, ◌∙◌, drop, map}
use Rattle.std.proofs.lemmas.Result.{err_from_is_err_and}
use Rattle.cy_trees.specs.TreeModels.{step_of}
use Rattle.cy_graph.specs.Graph.{State}
use Rattle.cy_updates_meaning.specs.Creating.{with_step}
use Rattle.cy_updates.specs.internal.Creating.{creation}
use Rattle.cy_updates.proofs.CreatedRows.{step_kept}
use Rattle.cy_updates_meaning.proofs.InTurn.{all_done, next_in, next_leads, next_stops, none_in, or_wants}
use Rattle.cy_updates.proofs.writes.creating.create_steps.Goals as goal

pub returns-in_err-create_step-clause-meaning : goal.returns-in_err-create_step-clause-meaning
returns-in_err-create_step-clause-meaning c =
    let l = c.loop-step in
    let steps = c.args.steps.now in
    let row = c.args.before.now in
    let p = err_from_is_err_and c.from_residual.result c.from_residual.ensures.1 in
    let why = c.in_err-create_step.field-0.0 in
    rw (p.1, p.2) (or_wants why
    (next_stops (with_step row) (map step_of (drop l.step-index steps)) (map step_of (drop (l.step-index + 1) steps)) (step_of c.step-item.result)
    (next_in step_of steps l.step-index c.step-item.result c.loop-step-test.true c.step-item.is) (creation l.store.graph.now row l.made) _ l.invariant.leads why) c.in_err-create_step.ensures.meaning)

pub loop-step-preserved : goal.loop-step-preserved
loop-step-preserved c =
    let l = c.loop-step in
    let steps = c.args.steps.now in
    let row = c.args.before.now in
    let done = c.in_ok-create_step.ensures in
    let before = creation l.store.graph.now row l.made in
    let now = creation c.create_step.new.store.graph.now row c.create_step.new.made in
    record {
      leads = next_leads (with_step row) (map step_of (drop l.step-index steps)) (map step_of (drop (l.step-index + 1) steps)) (step_of c.step-item.result)
          (next_in step_of steps l.step-index c.step-item.result c.loop-step-test.true c.step-item.is) before _ l.invariant.leads now done.meaning;
      there = step_kept row before now c.laws.ensures l.invariant.there (step_of c.step-item.result) done.meaning;
      was = done.open ∙ l.invariant.was;
      opened = subst (λ (o : Option State). IsSome o) (sym done.open) l.invariant.opened;
      indexes = done.indexes ∙ l.invariant.indexes;
    }

pub returns-clause-meaning : goal.returns-clause-meaning
returns-clause-meaning c =
    let l = c.loop-step in
    all_done (with_step c.args.before.now) (map step_of (drop l.step-index c.args.steps.now)) (none_in step_of c.args.steps.now l.step-index c.loop-step-test.false) (creation l.store.graph.now c.args.before.now l.made) _ l.invariant.leads
