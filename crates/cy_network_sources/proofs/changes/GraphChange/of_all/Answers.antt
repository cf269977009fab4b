use Rattle.cy_network_sources.proofs.Gathering.{all_come}
use Rattle.cy_network_sources.proofs.changes.GraphChange.of_all.Goals as goal

pub returns : goal.returns
returns c = all_come c.args.store.now.graph.now c.laws.ensures
