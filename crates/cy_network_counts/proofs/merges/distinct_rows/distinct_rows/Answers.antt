use Rattle.cy_network_counts.proofs.Merged.{few_inserted, once_inserted}
use Rattle.cy_network_counts.proofs.merges.distinct_rows.distinct_rows.Goals as goal

pub loop-row_delta-preserved : goal.loop-row_delta-preserved
loop-row_delta-preserved c = record {
  once = once_inserted _ c.rows_equal.ensures c.loop-row_delta.rows.keys c.insert.new.self.keys c.loop-row_delta.yielded c.in-Some.row_delta c.loop-row_delta.invariant.once c.in_ok-insert.ensures.keys;
  few = few_inserted _ c.rows_equal.ensures c.loop-row_delta.rows.keys c.insert.new.self.keys c.loop-row_delta.yielded c.in-Some.row_delta c.loop-row_delta.invariant.few c.in_ok-insert.ensures.keys;
}
