-- what the records so far make
use Rattle.std.proofs.Common.{◌≡◌, ◌++◌}
use Rattle.std.specs.Prelude.{flat_map}
use Rattle.cy_network_sources.specs.internal.Attributes.{valued_record}
use Rattle.cy_network_sources.proofs.lookups.add_records.Given as goal

abbrev pub invariant-loop-record : goal.invariant-loop-record
invariant-loop-record l = l.made.items ≡ l.initial.made.items ++ flat_map (valued_record l.values) l.yielded
