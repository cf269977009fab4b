use Rattle.cy_network_counts.proofs.SemiRows.{left_within, semi_at}
use Rattle.cy_network_counts.proofs.semi_laws.plans.Goals as goal

pub returns-clause-rows : goal.returns-clause-rows
returns-clause-rows c = semi_at

pub returns-clause-left_columns : goal.returns-clause-left_columns
returns-clause-left_columns c = left_within
