use Rattle.cy_updates_meaning.specs.Counts.{AgreeWith, counts_between}
use Rattle.cy_updates_meaning.specs.Statements.{GraphTable, updated}
use Rattle.cy_updates_meaning.proofs.UpdatedGraphs.{Updated, clause_updated, statement_left}
use Rattle.cy_updates_meaning.proofs.StoredValues.{if_ok_weaker}
use Rattle.cy_updates_meaning.proofs.laws.counts_agree.Goals as goal

pub returns-clause-clauses : goal.returns-clause-clauses
returns-clause-clauses c = λ graph clause rows is there.
    if_ok_weaker (Updated graph) (λ (after : GraphTable). AgreeWith graph after.graph (counts_between graph.content after.graph.content)) (λ after done. done.counted)
    (updated graph clause rows) (clause_updated graph clause rows is there)

pub returns-clause-statements : goal.returns-clause-statements
returns-clause-statements c = λ graph statement is. statement_left c.rows_in_graph.ensures.clauses graph statement is
