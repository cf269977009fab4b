use Rattle.std.proofs.Common.{◌≡◌, ◌+◌, ◌≤◌, ◌++◌, reverse, vec_len}
use Rattle.cy_bags.specs.internal.Counting.{counted_from, counted_rows}
use Rattle.cy_bags.proofs.bags.counted.Given as goal

-- what is counted, and what the row at hand and those left count, are all
abbrev pub invariant-loop-next : goal.invariant-loop-next
invariant-loop-next l =
    record {
      counts : l.counted.items ++ counted_from l.row l.count (reverse l.rows.items) ≡ counted_rows (reverse l.fn.rows.items);
      bound : l.count + vec_len l.rows ≤ vec_len l.fn.rows;
    }

abbrev pub decreases-loop-next : goal.decreases-loop-next
decreases-loop-next l = vec_len l.rows
