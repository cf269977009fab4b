use Rattle.cy_network_counts.proofs.GreatestCounts.{counted}
use Rattle.cy_network_counts.proofs.greatest.add_counts.Goals as goal

pub returns : goal.returns
returns c row =
    counted _ c.rows_equal.ensures c.args.counts.now c.insert.new.self c.args.row_delta c.counts_of-before.result c.max.result c.max-2.result c.counts_of-before.ensures c.max.ensures c.max-2.ensures
    c.in_ok-insert.ensures.updates row
