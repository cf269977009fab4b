-- what was added for a row, with what its count that is left comes to, is what it came to at first
use Rattle.std.proofs.Common.{◌≡◌, ◌≤◌, ◌++◌, List, length}
use Rattle.std.specs.List.{All}
use Rattle.cy_values.specs.declared.rows.Cell.{Cell}
use Rattle.cy_values.specs.Bag.{count_of}
use Rattle.cy_network_memory.specs.Counts.{greatest_count}
use Rattle.cy_network_operators.specs.Deltas.{IsBounded, row_delta_between, deltas_of}
use Rattle.cy_network_sources.proofs.recounts.add_come.Given as goal

abbrev pub invariant-loop-row : goal.invariant-loop-row
invariant-loop-row l = record {
  recounted : (row : List Cell) → deltas_of row l.deltas.items ++ row_delta_between row 0 (count_of row l.new.items) ≡ deltas_of row l.initial.deltas.items ++ row_delta_between row 0 (count_of row l.initial.new.items);
  bounded : All IsBounded l.initial.deltas.items → All IsBounded l.deltas.items;
  new : length l.new.items ≤ greatest_count;
}

abbrev pub decreases-loop-row : goal.decreases-loop-row
decreases-loop-row l = length l.new.items
