use Rattle.std.proofs.lemmas.Result.{IfOk-weaker}
use Rattle.cy_network_sources.proofs.AttributeLemmas.{node_cell, rel_cell}
use Rattle.cy_network_sources.proofs.attributes.cell_attributes.Goals as goal

pub returns-in-Node-clause-values : goal.returns-in-Node-clause-values
returns-in-Node-clause-values c =
    IfOk-weaker c.node_attributes.result _ _
    (node_cell c.args.sight.now.graph.now c.args.change.now c.args.attribute.now c.in-Node.id c.args.cell.now c.in-Node.is)
    c.node_attributes.ensures.values

pub returns-in-Rel-clause-values : goal.returns-in-Rel-clause-values
returns-in-Rel-clause-values c =
    IfOk-weaker c.rel_attributes.result _ _
    (rel_cell c.args.sight.now.graph.now c.args.change.now c.args.attribute.now c.in-Rel.id c.args.cell.now c.in-Rel.is)
    c.rel_attributes.ensures.values
