use Rattle.std.proofs.Common.{◌≡◌, ◌+◌, ◌≤◌, length}
use Rattle.indexmap.specs.IndexMap.{spare}
use Rattle.cy_network_parts.specs.Counted.{ArePositive, counted, written}
use Rattle.cy_network.proofs.rows.write_counts.Given as goal

-- the counts so far are written, and there is room for those that are left
abbrev pub invariant-loop-row : goal.invariant-loop-row
invariant-loop-row l = record {
  counts : counted l.rows.entries ≡ written l.yielded (counted l.initial.rows.entries);
  positive : ArePositive l.rows.entries;
  room : spare l.initial.rows ≤ spare l.rows + length l.yielded;
}
