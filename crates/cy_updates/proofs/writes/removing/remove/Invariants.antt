use Rattle.std.proofs.Common.{◌≡◌, IsSome, drop, map}
use Rattle.std.specs.Prelude.{fold}
use Rattle.cy_trees.specs.TreeModels.{remove_item_of}
use Rattle.cy_oneshot_meaning.specs.Reading.{AreInGraph}
use Rattle.cy_updates_meaning.specs.Statements.{remove_row}
use Rattle.cy_updates.proofs.writes.removing.remove.Given as goal

-- the rows that are left lead as far as all do from the beginning
abbrev pub invariant-loop-row : goal.invariant-loop-row
invariant-loop-row l = record {
  leads : fold (remove_row (map remove_item_of l.items)) l.store.graph.now (drop l.row-index l.rows) ≡ fold (remove_row (map remove_item_of l.items)) l.fn.store.graph.now l.rows;
  there : AreInGraph l.store.graph.now.content l.rows;
  was : l.store.graph.was ≡ l.fn.store.graph.was;
  opened : IsSome l.store.graph.was;
  indexes : l.store.chosen ≡ l.fn.store.chosen;
}
