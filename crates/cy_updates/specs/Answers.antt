-- What the code answers for a statement. (own)
use Rattle.cy_graph.specs.Graph.{State}
use Rattle.cy_updates.specs.declared.statements.StatementAnswer as coded
use Rattle.cy_updates_meaning.specs.Statements.{Outcome}

-- the graph that a statement leaves, with what the code answers
abbrev pub outcome_seen : State → coded.StatementAnswer → Outcome
outcome_seen graph outcome = record {
  graph = graph;
  counts = record { made_nodes = outcome.made_nodes; gone_nodes = outcome.gone_nodes; made_rels = outcome.made_rels; gone_rels = outcome.gone_rels };
  columns = outcome.table.columns.items;
  rows = outcome.table.rows.items;
}
