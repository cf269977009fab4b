use Rattle.cy_oneshot_meaning.proofs.InGraphLemmas.{row_numbered}
use Rattle.cy_oneshot_outcomes.proofs.evaluation.value_on.Goals as goal

-- the numbers of what is in the graph
pub eval_value-requires : goal.eval_value-requires
eval_value-requires c = row_numbered c.args.store.now.graph.now c.laws.ensures c.args.row.now c.requires
