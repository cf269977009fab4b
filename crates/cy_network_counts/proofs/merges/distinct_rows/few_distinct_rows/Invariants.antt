use Rattle.std.proofs.Common.{◌≡◌, ◌≤◌, List, cond, length}
use Rattle.cy_values.specs.declared.rows.Cell.{Cell}
use Rattle.cy_values.specs.Bag.{count_of}
use Rattle.cy_network_counts.specs.internal.Sums.{is_changed}
use Rattle.cy_network_counts.proofs.merges.distinct_rows.few_distinct_rows.Given as goal

-- the rows so far, each once
abbrev pub invariant-loop-row_delta : goal.invariant-loop-row_delta
invariant-loop-row_delta l =
    record {
      once : (row : List Cell) → count_of row l.rows.items ≡ cond (is_changed row l.yielded) 1 0;
      few : length l.rows.items ≤ length l.yielded;
    }
