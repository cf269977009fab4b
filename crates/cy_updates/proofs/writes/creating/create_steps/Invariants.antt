use Rattle.std.proofs.Common.{◌≡◌, IsSome, drop, map}
use Rattle.cy_trees.specs.TreeModels.{step_of}
use Rattle.cy_updates_meaning.specs.Creating.{with_step}
use Rattle.cy_updates_meaning.specs.Faults.{each_in_turn}
use Rattle.cy_updates.specs.internal.Creating.{IsCreation, creation}
use Rattle.cy_updates.proofs.writes.creating.create_steps.Given as goal

-- the steps that are left lead as far as all do from the beginning
abbrev pub invariant-loop-step : goal.invariant-loop-step
invariant-loop-step l = record {
  leads : each_in_turn (with_step l.before) (map step_of (drop l.step-index l.steps)) (creation l.store.graph.now l.before l.made) ≡ each_in_turn (with_step l.before) (map step_of l.steps) (creation l.fn.store.graph.now l.before l.fn.made);
  there : IsCreation (creation l.store.graph.now l.before l.made);
  was : l.store.graph.was ≡ l.fn.store.graph.was;
  opened : IsSome l.store.graph.was;
  indexes : l.store.chosen ≡ l.fn.store.chosen;
}
