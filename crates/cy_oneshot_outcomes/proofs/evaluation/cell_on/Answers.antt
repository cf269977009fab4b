use Rattle.cy_oneshot_meaning.proofs.InGraphLemmas.{row_numbered}
use Rattle.cy_oneshot_outcomes.proofs.evaluation.cell_on.Goals as goal

-- the numbers of what is in the graph
pub eval-requires : goal.eval-requires
eval-requires c = row_numbered c.args.store.now.graph.now c.laws.ensures c.args.row.now c.requires
