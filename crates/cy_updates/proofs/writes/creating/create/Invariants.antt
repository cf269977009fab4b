use Rattle.std.proofs.Common.{◌≡◌, [], IsSome, map}
use Rattle.std.specs.Vec.Iter.{into_iter_items}
use Rattle.cy_trees.specs.TreeModels.{path_of}
use Rattle.cy_oneshot_meaning.specs.Reading.{AreInGraph}
use Rattle.cy_updates_meaning.specs.Faults.{each_in_turn}
use Rattle.cy_updates_meaning.specs.Statements.{create_row}
use Rattle.cy_updates_meaning.specs.internal.Answers.{graph_table}
use Rattle.cy_updates.proofs.writes.creating.create.Given as goal

-- the rows that are left lead as far as all do from the beginning
abbrev pub invariant-loop-row : goal.invariant-loop-row
invariant-loop-row l = record {
  leads : each_in_turn (create_row (map path_of l.paths)) (into_iter_items l.row-iterator) (graph_table l.store.graph.now l.longer.items) ≡ each_in_turn (create_row (map path_of l.paths)) l.fn.rows.items (graph_table l.fn.store.graph.now []);
  there : AreInGraph l.store.graph.now.content (into_iter_items l.row-iterator);
  was : l.store.graph.was ≡ l.fn.store.graph.was;
  opened : IsSome l.store.graph.was;
  indexes : l.store.chosen ≡ l.fn.store.chosen;
}
