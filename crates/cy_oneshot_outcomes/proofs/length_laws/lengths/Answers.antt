use Rattle.cy_oneshot_outcomes.proofs.Tables.{same_rows, same_sums, same_tables}
use Rattle.cy_oneshot_outcomes.proofs.Unnamed.{rows_of_singles, same_unnamed}
use Rattle.cy_oneshot_outcomes.proofs.length_laws.lengths.Goals as goal

pub returns-clause-tables : goal.returns-clause-tables
returns-clause-tables c = λ state row s is. same_tables state.content is.rising row s

pub returns-clause-sums : goal.returns-clause-sums
returns-clause-sums c = λ state row s value is. same_sums state.content is.rising row s value

pub returns-clause-rows : goal.returns-clause-rows
returns-clause-rows c = λ state row s is. same_rows state.content is.rising row s

pub returns-clause-unnamed : goal.returns-clause-unnamed
returns-clause-unnamed c = λ state row s is unnamed. same_unnamed state.content is.rising row s unnamed

pub returns-clause-singles : goal.returns-clause-singles
returns-clause-singles c = λ graph row s count some. rows_of_singles graph row s count some
