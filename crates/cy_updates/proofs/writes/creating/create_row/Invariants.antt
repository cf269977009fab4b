use Rattle.std.proofs.Common.{◌≡◌, IsSome, drop, map}
use Rattle.cy_trees.specs.TreeModels.{path_of}
use Rattle.cy_updates_meaning.specs.Creating.{created, with_path}
use Rattle.cy_updates_meaning.specs.Faults.{each_in_turn}
use Rattle.cy_updates.specs.internal.Creating.{IsCreation, creation}
use Rattle.cy_updates.proofs.writes.creating.create_row.Given as goal

-- the paths that are left lead as far as all do from the beginning
abbrev pub invariant-loop-path : goal.invariant-loop-path
invariant-loop-path l = record {
  leads : each_in_turn (with_path l.fn.row) (map path_of (drop l.path-index l.paths)) (creation l.store.graph.now l.fn.row l.made) ≡ created l.fn.store.graph.now (map path_of l.paths) l.fn.row;
  there : IsCreation (creation l.store.graph.now l.fn.row l.made);
  was : l.store.graph.was ≡ l.fn.store.graph.was;
  opened : IsSome l.store.graph.was;
  indexes : l.store.chosen ≡ l.fn.store.chosen;
}
