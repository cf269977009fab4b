use Rattle.std.proofs.Common.{◌≡◌, IsSome, drop, map}
use Rattle.cy_trees.specs.TreeModels.{set_item_of}
use Rattle.cy_oneshot_meaning.specs.internal.Answers.{IsRowThere}
use Rattle.cy_updates_meaning.specs.Faults.{each_in_turn}
use Rattle.cy_updates_meaning.specs.Setting.{set_item}
use Rattle.cy_updates.proofs.writes.setting.set_row.Given as goal

-- the items that are left lead as far as all do from the beginning
abbrev pub invariant-loop-item : goal.invariant-loop-item
invariant-loop-item l = record {
  leads : each_in_turn (set_item l.row) (map set_item_of (drop l.item-index l.items)) l.store.graph.now ≡ each_in_turn (set_item l.row) (map set_item_of l.items) l.fn.store.graph.now;
  there : IsRowThere l.store.graph.now.content l.row;
  was : l.store.graph.was ≡ l.fn.store.graph.was;
  opened : IsSome l.store.graph.was;
  indexes : l.store.chosen ≡ l.fn.store.chosen;
}
