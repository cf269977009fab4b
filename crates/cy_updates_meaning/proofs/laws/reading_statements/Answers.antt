use Rattle.cy_updates_meaning.proofs.ReadingStatements.{only_read, rows_read}
use Rattle.cy_updates_meaning.proofs.laws.reading_statements.Goals as goal

pub returns-clause-reading : goal.returns-clause-reading
returns-clause-reading c = λ graph statement none. only_read graph statement none

pub returns-clause-rows : goal.returns-clause-rows
returns-clause-rows c = λ graph statement ends. rows_read graph statement ends
