use Rattle.std.proofs.Common.{◌≡◌, [], drop, map}
use Rattle.std.specs.BTreeMap.{IsOrdered}
use Rattle.std.specs.Prelude.{Ok}
use Rattle.cy_graph.specs.Maps.{text_order}
use Rattle.cy_trees.specs.TreeModels.{entry_of}
use Rattle.cy_updates_meaning.specs.Faults.{◌>>=◌}
use Rattle.cy_updates_meaning.specs.Values.{entry_values, set_all}
use Rattle.cy_updates_meaning.proofs.StoredValues.{AreProperties}
use Rattle.cy_updates.proofs.writes.maps.many_properties.Given as goal

-- what is set so far, with the entries that are left, is what all of them make
abbrev pub invariant-loop-entry : goal.invariant-loop-entry
invariant-loop-entry l = record {
  leads : (entry_values l.store.graph.now l.row (map entry_of (drop l.entry-index l.entries)) >>= λ values. Ok (set_all l.props.entries values))
      ≡ (entry_values l.store.graph.now l.row (map entry_of l.entries) >>= λ values. Ok (set_all [] values));
  good : AreProperties l.props.entries;
  ordered : IsOrdered text_order l.props;
}
