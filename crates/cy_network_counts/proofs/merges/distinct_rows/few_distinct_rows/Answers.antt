use Rattle.std.proofs.Common.{refl}
use Rattle.cy_values.specs.Same.{is_row}
use Rattle.cy_network_counts.proofs.Merged.{few_inserted, once_inserted}
use Rattle.cy_network_counts.proofs.merges.distinct_rows.few_distinct_rows.Goals as goal

pub loop-row_delta-preserved : goal.loop-row_delta-preserved
loop-row_delta-preserved c = record {
  once = once_inserted is_row (λ x y. refl) c.loop-row_delta.rows.items c.add_new.new.rows.items c.loop-row_delta.yielded c.in-Some.row_delta c.loop-row_delta.invariant.once c.in_ok-add_new.ensures.added;
  few = few_inserted is_row (λ x y. refl) c.loop-row_delta.rows.items c.add_new.new.rows.items c.loop-row_delta.yielded c.in-Some.row_delta c.loop-row_delta.invariant.few c.in_ok-add_new.ensures.added;
}
