use Rattle.cy_network_sources.proofs.Determined.{node_number, one_node, one_rel, rel_number, same_naming}
use Rattle.cy_network_sources.proofs.laws.changes.Goals as goal

pub returns-clause-nodes : goal.returns-clause-nodes
returns-clause-nodes c = one_node

pub returns-clause-rels : goal.returns-clause-rels
returns-clause-rels c = one_rel

pub returns-clause-node_number : goal.returns-clause-node_number
returns-clause-node_number c = node_number

pub returns-clause-rel_number : goal.returns-clause-rel_number
returns-clause-rel_number c = rel_number

pub returns-clause-naming : goal.returns-clause-naming
returns-clause-naming c = same_naming
