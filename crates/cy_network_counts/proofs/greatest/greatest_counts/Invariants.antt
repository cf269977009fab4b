use Rattle.std.proofs.Common.{◌≡◌, List}
use Rattle.cy_values.specs.declared.rows.Cell.{Cell}
use Rattle.cy_network_counts.specs.internal.Sums.{counts_at, most_after, most_before}
use Rattle.cy_network_counts.proofs.greatest.greatest_counts.Given as goal

-- the greatest counts so far
abbrev pub invariant-loop-row_delta : goal.invariant-loop-row_delta
invariant-loop-row_delta l = (row : List Cell) → counts_at row l.counts.entries ≡ (most_before l.yielded row, most_after l.yielded row)
