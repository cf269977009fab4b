use Rattle.cy_oneshot_meaning.specs.Reading.{AreInGraph}
use Rattle.cy_graph.specs.Graph.{IsGraph}
use Rattle.cy_updates_meaning.specs.Statements.{GraphTable, updated}
use Rattle.cy_updates_meaning.proofs.UpdatedGraphs.{Updated, clause_updated}
use Rattle.cy_updates_meaning.proofs.StoredValues.{if_ok_weaker}
use Rattle.cy_updates_meaning.proofs.laws.graphs_after.Goals as goal

pub returns-clause-graphs : goal.returns-clause-graphs
returns-clause-graphs c = λ graph clause rows is there.
    if_ok_weaker (Updated graph) (λ (after : GraphTable). IsGraph after.graph) (λ after done. done.is) (updated graph clause rows) (clause_updated graph clause rows is there)

pub returns-clause-rows : goal.returns-clause-rows
returns-clause-rows c = λ graph clause rows is there.
    if_ok_weaker (Updated graph) (λ (after : GraphTable). AreInGraph after.graph.content after.rows) (λ after done. done.rows) (updated graph clause rows) (clause_updated graph clause rows is there)
