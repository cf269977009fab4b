use Rattle.std.proofs.Common.{◌≡◌, IsSome, drop, map}
use Rattle.cy_trees.specs.TreeModels.{set_item_of}
use Rattle.cy_oneshot_meaning.specs.Reading.{AreInGraph}
use Rattle.cy_updates_meaning.specs.Faults.{each_in_turn}
use Rattle.cy_updates_meaning.specs.Statements.{set_row}
use Rattle.cy_updates.proofs.writes.setting.set.Given as goal

-- the rows that are left lead as far as all do from the beginning
abbrev pub invariant-loop-row : goal.invariant-loop-row
invariant-loop-row l = record {
  leads : each_in_turn (set_row (map set_item_of l.items)) (drop l.row-index l.rows) l.store.graph.now ≡ each_in_turn (set_row (map set_item_of l.items)) l.rows l.fn.store.graph.now;
  there : AreInGraph l.store.graph.now.content l.rows;
  was : l.store.graph.was ≡ l.fn.store.graph.was;
  opened : IsSome l.store.graph.was;
  indexes : l.store.chosen ≡ l.fn.store.chosen;
}
