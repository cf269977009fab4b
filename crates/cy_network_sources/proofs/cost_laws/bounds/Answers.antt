use Rattle.cy_network_sources.proofs.Bound.{all_within}
use Rattle.cy_network_sources.proofs.Still.{no_cost, one_cost}
use Rattle.cy_network_sources.proofs.cost_laws.bounds.Goals as goal

pub returns-clause-work : goal.returns-clause-work
returns-clause-work c = all_within

pub returns-clause-nothing : goal.returns-clause-nothing
returns-clause-nothing c = no_cost

pub returns-clause-same : goal.returns-clause-same
returns-clause-same c = one_cost
