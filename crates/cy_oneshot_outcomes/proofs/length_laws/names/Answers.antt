use Rattle.cy_oneshot_outcomes.proofs.Tables.{rows_by_names}
use Rattle.cy_oneshot_outcomes.proofs.length_laws.names.Goals as goal

pub returns : goal.returns
returns c = λ graph paths row. rows_by_names graph paths row
