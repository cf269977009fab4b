use Rattle.cy_network_counts.proofs.GreatestCounts.{delta_of_counts}
use Rattle.cy_network_counts.proofs.OneToOne.{if_ok_more}
use Rattle.cy_network_counts.proofs.greatest.together.Goals as goal

pub returns : goal.returns
returns c =
    if_ok_more _ _ c.deltas_of_counts.result c.deltas_of_counts.ensures
    (λ made each. delta_of_counts c.args.deltas.items made.items c.in_ok-counts.counts.entries c.in_ok-counts.ensures each)
