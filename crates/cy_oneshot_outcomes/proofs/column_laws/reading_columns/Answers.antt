use Rattle.cy_oneshot_outcomes.proofs.Agreeing.{cell-same}
use Rattle.cy_oneshot_outcomes.proofs.column_laws.reading_columns.Goals as goal

pub returns : goal.returns
returns c graph row other expression agree = cell-same graph row other expression agree
