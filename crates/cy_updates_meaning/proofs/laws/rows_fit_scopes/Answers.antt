use Rattle.cy_updates_meaning.proofs.ScopedRows.{clause_fits}
use Rattle.cy_updates_meaning.proofs.laws.rows_fit_scopes.Goals as goal

pub returns : goal.returns
returns c = λ graph scope clause rows good updates fit. clause_fits graph scope clause rows good updates fit
