use Rattle.cy_network_counts.proofs.GreatestCounts.{counts_push}
use Rattle.cy_network_counts.proofs.greatest.greatest_counts.Goals as goal

pub loop-row_delta-preserved : goal.loop-row_delta-preserved
loop-row_delta-preserved c = counts_push c.loop-row_delta.counts.entries c.add_counts.new.counts.entries c.loop-row_delta.yielded c.in-Some.row_delta c.loop-row_delta.invariant c.in_ok-add_counts.ensures
