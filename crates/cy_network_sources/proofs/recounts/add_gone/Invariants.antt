-- what was added for a row, with what its counts that are left come to, is what they came to at first
use Rattle.std.proofs.Common.{◌≡◌, ◌≤◌, ◌++◌, List, length}
use Rattle.std.specs.List.{All}
use Rattle.cy_values.specs.declared.rows.Cell.{Cell}
use Rattle.cy_network_memory.specs.Counts.{greatest_count}
use Rattle.cy_network_operators.specs.Deltas.{IsBounded, deltas_of}
use Rattle.cy_network_sources.specs.internal.Through.{recounted}
use Rattle.cy_network_sources.proofs.recounts.add_gone.Given as goal

abbrev pub invariant-loop-row : goal.invariant-loop-row
invariant-loop-row l = record {
  recounted : (row : List Cell) → deltas_of row l.deltas.items ++ recounted l.old.items l.new.items row ≡ deltas_of row l.initial.deltas.items ++ recounted l.initial.old.items l.initial.new.items row;
  bounded : All IsBounded l.initial.deltas.items → All IsBounded l.deltas.items;
  old : length l.old.items ≤ greatest_count;
  new : length l.new.items ≤ length l.initial.new.items;
}

abbrev pub decreases-loop-row : goal.decreases-loop-row
decreases-loop-row l = length l.old.items
