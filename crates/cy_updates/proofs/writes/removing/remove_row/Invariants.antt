use Rattle.std.proofs.Common.{◌≡◌, IsSome, drop, map}
use Rattle.std.specs.Prelude.{fold}
use Rattle.cy_trees.specs.TreeModels.{remove_item_of}
use Rattle.cy_oneshot_meaning.specs.internal.Answers.{IsRowThere}
use Rattle.cy_updates_meaning.specs.Setting.{removed_item}
use Rattle.cy_updates.proofs.writes.removing.remove_row.Given as goal

-- the items that are left lead as far as all do from the beginning
abbrev pub invariant-loop-item : goal.invariant-loop-item
invariant-loop-item l = record {
  leads : fold (removed_item l.row) l.store.graph.now (map remove_item_of (drop l.item-index l.items)) ≡ fold (removed_item l.row) l.fn.store.graph.now (map remove_item_of l.items);
  there : IsRowThere l.store.graph.now.content l.row;
  was : l.store.graph.was ≡ l.fn.store.graph.was;
  opened : IsSome l.store.graph.was;
  indexes : l.store.chosen ≡ l.fn.store.chosen;
}
