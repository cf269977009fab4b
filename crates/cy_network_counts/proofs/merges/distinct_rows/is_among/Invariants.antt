-- The rows that are left settle the answer.
use Rattle.std.proofs.Common.{◌≡◌, drop}
use Rattle.std.specs.List.{list_any}
use Rattle.cy_values.specs.Same.{is_row}
use Rattle.cy_network_counts.proofs.merges.distinct_rows.is_among.Given as goal

abbrev pub invariant-loop-other : goal.invariant-loop-other
invariant-loop-other l = list_any (is_row l.row) (drop l.other-index l.rows) ≡ list_any (is_row l.row) l.rows
